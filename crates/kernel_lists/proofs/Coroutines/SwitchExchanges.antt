-- What a switch exchanges of the words that the coroutines of a task own.
use Rattle.std.proofs.Common.{◌≡◌, ◌≢◌, ◌⊎◌, inl, inr, ℕ, ◌+◌, ◌<◌, List, [], ◌∷◌, ◌++◌, cond, drop, eqb, ◌||◌, get_or, map, set, Bool, true, false, Ok, refl, sym, ap, ◌∙◌, subst, arith}
use Rattle.std.specs.Prelude.{not}
use Rattle.std.specs.List.{AllByRecursion, flat_map}
use Rattle.std.proofs.lemmas.Bool.{cases_eq, false≢true}
use Rattle.std.proofs.lemmas.Bool.Decides.{nat_tests}
use Rattle.kernel_lists.specs.LinkedList.Chain.{list_at}
use Rattle.word_store.specs.Count.{IsApart}
use Rattle.kernel_lists.specs.LinkedList.Linked.{IsListAt}
use Rattle.kernel_lists.specs.LinkedList.Places.{has}
use Rattle.kernel_lists.proofs.LinkedList.AllMembers.{all-has}
use Rattle.kernel_lists.proofs.LinkedList.Chains.{nodes-apart}
use Rattle.word_store.proofs.Counts.{hit-same}
use Rattle.kernel_lists.proofs.LinkedList.Members.{has-none, has-times}
use Rattle.kernel_lists.specs.OwnedWords.Exchange.{Exchange, Splits}
use Rattle.kernel_lists.specs.OwnedWords.LinkedWords.{first_of, headed_words, linked_words}
use Rattle.kernel_lists.specs.OwnedWords.Owned.{Holds, Pairs, row_from, written}
use Rattle.kernel_lists.proofs.OwnedWords.Exchanges.{exchange-all, exchange-both, exchange-none, exchange-right}
use Rattle.kernel_lists.proofs.OwnedWords.HeldLists.{held-list}
use Rattle.kernel_lists.proofs.OwnedWords.MemberExchanges.{IsMember, exchange-map, first_of-map, one-chosen}
use Rattle.kernel_lists.proofs.OwnedWords.OwnedWords.{Holds-left, Holds-right}
use Rattle.kernel_lists.proofs.OwnedWords.Parts.{exchange-within}
use Rattle.word_store.specs.declared.registers.Regs.{Regs}
use Rattle.kernel_lists.specs.TaskBlock.Lists.{coroutine_link}
use Rattle.kernel_lists.specs.Coroutines.CoroutineExchanges.{CallExchange, EndExchange, HoldsCoroutines, ResumeExchange, Rewrites, TaskCoroutines, WaitExchange, current_of, function_of, words_of_coroutines, pairs_in, switch_words, with_frame, with_saved}
use Rattle.kernel_lists.specs.Coroutines.CoroutineWords.{as_current, as_parent, bottom, coroutine_size, current_in, function_in, parent_in, saved_p, saved_pc}
use Rattle.kernel_lists.specs.Coroutines.HeldCoroutines.{Coroutine, HeldCoroutines, address_of, coroutine_words, first_active, parent_of}
use Rattle.kernel_lists.specs.Coroutines.Refusals.{first_refusal, has_parent, idle_answer, is_known, is_within, resume_answer, wait_answer}
use Rattle.kernel_lists.specs.declared.coroutine_lists.ends.CoEnd.TheVariants.{HasParent, NoParent, Unknown}
use Rattle.kernel_lists.proofs.Coroutines.IdleAnswer.{idle}
use Rattle.kernel_lists.specs.Coroutines.Switch.{called, replaced, resumed, returned, waited}
use Rattle.kernel_lists.proofs.Coroutines.HeldCoroutineLists.{are_coroutines, held-coroutines, held-parents, parent_of-none}
use Rattle.kernel_lists.proofs.Coroutines.CoroutineLists.{Built}
use Rattle.kernel_lists.proofs.Coroutines.KnownCoroutines.{task-apart}
use Rattle.kernel_lists.proofs.Coroutines.SamePairs.{AreSame, exchange-same, rewrites, same-equal, same-gathered, same-pieces, same-swap, same-then, same-values}
use Rattle.kernel_lists.proofs.Coroutines.Switches.{saved-known}

-- ---- the words of one coroutine

abbrev row : Coroutine → ℕ → ℕ → ℕ → ℕ → Pairs
row x p parent pc next = row_from x.address 0 (p ∷ parent ∷ next ∷ x.function ∷ x.highest ∷ x.address ∷ pc ∷ 0 ∷ 0 ∷ x.function ∷ [])

-- the P and the PC that are saved in it, and its parent
abbrev frame : (Coroutine → ℕ) → (Coroutine → ℕ) → Coroutine → Pairs
frame p pc x = (x.address + 0, p x) ∷ (x.address + 6, pc x) ∷ []

abbrev parent : ℕ → List ℕ → Coroutine → Pairs
parent t act x = (x.address + 1, parent_of t act x.address) ∷ []

splits-row : (x : Coroutine) (p up pc next : ℕ) → Splits (row x p up pc next)
    ((x.address + 2, next) ∷ (x.address + 3, x.function) ∷ (x.address + 4, x.highest) ∷ (x.address + 5, x.address) ∷ (x.address + 7, 0) ∷ (x.address + 8, 0) ∷ (x.address + 9, x.function) ∷ [])
    (((x.address + 0, p) ∷ (x.address + 6, pc) ∷ []) ++ (x.address + 1, up) ∷ [])
splits-row x p up pc next =
    record {
      count = λ a. omega arith;
      opens = λ s h. (
        (h.1.1.0, (h.1.1.1.0, (h.1.1.1.1.0, (h.1.1.1.1.1.0, (h.1.1.1.1.1.1.1.0, (h.1.1.1.1.1.1.1.1.0, (h.1.1.1.1.1.1.1.1.1.0, tt))))))),
        (h.0, (h.1.1.1.1.1.1.0, (h.1.0, tt))),
      );
      closes = λ s h k. (k.0, (k.1.1.0, (h.0, (h.1.0, (h.1.1.0, (h.1.1.1.0, (k.1.0, (h.1.1.1.1.0, (h.1.1.1.1.1.0, (h.1.1.1.1.1.1.0, tt))))))))));
    }

-- the frame changes where the coroutine is d, and the parent where the test w says so
row-exchange : (t d p pc : ℕ) (act act' : List ℕ) (w : ℕ → Bool) → ((a : ℕ) → w a ≡ false → parent_of t act' a ≡ parent_of t act a) → (x : Coroutine) (n : ℕ)
    → Exchange (coroutine_words t act x n) (coroutine_words t act' (with_frame d p pc x) n)
    (cond (eqb x.address d) (frame (λ x. x.saved_p) (λ x. x.saved_pc) x) [] ++ cond (w x.address) (parent t act x) [])
    (cond (eqb x.address d) (frame (λ x. p) (λ x. pc) x) [] ++ cond (w x.address) (parent t act' x) [])
row-exchange t d p pc act act' w same x n =
    let a : ℕ = x.address in
    let u : Bool = eqb a d in
    exchange-within _ _ _ _ _ _ _ (splits-row x x.saved_p (parent_of t act a) x.saved_pc n) (splits-row x (cond u p x.saved_p) (parent_of t act' a) (cond u pc x.saved_pc) n)
    (exchange-both _ _ _ _ _ _ _ _ (frames u) (parents (w a) refl))
  where
    frames : (u : Bool) → Exchange (frame (λ x. x.saved_p) (λ x. x.saved_pc) x) ((x.address + 0, cond u p x.saved_p) ∷ (x.address + 6, cond u pc x.saved_pc) ∷ [])
        (cond u (frame (λ x. x.saved_p) (λ x. x.saved_pc) x) []) (cond u (frame (λ x. p) (λ x. pc) x) [])
    frames true = exchange-all (frame (λ x. x.saved_p) (λ x. x.saved_pc) x) (frame (λ x. p) (λ x. pc) x)
    frames false = exchange-none (frame (λ x. x.saved_p) (λ x. x.saved_pc) x)

    parents : (v : Bool) → w x.address ≡ v → Exchange (parent t act x) (parent t act' x) (cond v (parent t act x) []) (cond v (parent t act' x) [])
    parents true e = exchange-all (parent t act x) (parent t act' x)
    parents false e = subst (λ z. Exchange (parent t act x) ((x.address + 1, z) ∷ []) [] []) (sym (same x.address e)) (exchange-none (parent t act x))

-- ---- the words of the task

abbrev root : ℕ → ℕ → ℕ → Pairs
root t p pc = (t + 19, p) ∷ (t + 20, pc) ∷ []

-- the frame of the coroutine d, and the parents of those that the test w names, where these are active
abbrev changed : ℕ → (Coroutine → ℕ) → (Coroutine → ℕ) → ℕ → List ℕ → (ℕ → Bool) → List Coroutine → Pairs
changed d p pc t act w xs = flat_map (λ x. cond (eqb x.address d) (frame p pc x) [] ++ cond (w x.address) (parent t act x) []) xs

abbrev old_words : ℕ → TaskCoroutines → (ℕ → Bool) → Pairs
old_words t k w =
    (t + 18, current_of k) ∷ (cond (eqb (current_of k) 0) (root t k.root_p k.root_pc) [] ++ changed (current_of k) (λ x. x.saved_p) (λ x. x.saved_pc) t k.active w k.list)

abbrev new_words : ℕ → TaskCoroutines → ℕ → ℕ → List ℕ → (ℕ → Bool) → Pairs
new_words t k p pc act w =
    (t + 18, first_active act 0) ∷ (cond (eqb (current_of k) 0) (root t p pc) [] ++ changed (current_of k) (λ x. p) (λ x. pc) t act w k.list)

-- any switch, where these are active afterwards
switch-exchange : (t : ℕ) (k : TaskCoroutines) (p pc : ℕ) (act : List ℕ) (w : ℕ → Bool) → ((a : ℕ) → w a ≡ false → parent_of t act a ≡ parent_of t k.active a)
    → Exchange (words_of_coroutines t k) (words_of_coroutines t (record (with_saved p pc k) { active = act })) (old_words t k w) (new_words t k p pc act w)
switch-exchange t k p pc act w same =
    let d : ℕ = current_of k in
    let old : Pairs = changed d (λ x. x.saved_p) (λ x. x.saved_pc) t k.active w k.list in
    let new : Pairs = changed d (λ x. p) (λ x. pc) t act w k.list in
    let list : Exchange (linked_words address_of (coroutine_words t k.active) k.list 0) (linked_words address_of (coroutine_words t act) (map (with_frame d p pc) k.list) 0) old new =
    exchange-map address_of (coroutine_words t k.active) (coroutine_words t act) (with_frame d p pc) _ _ (λ x. refl) (row-exchange t d p pc k.active act w same) k.list 0
    in
    let headed : Exchange (headed_words address_of (coroutine_words t k.active) (t + 17) k.list 0) (headed_words address_of (coroutine_words t act) (t + 17) (map (with_frame d p pc) k.list) 0) old new =
    subst (λ n. Exchange (headed_words address_of (coroutine_words t k.active) (t + 17) k.list 0) ((t + 17, n) ∷ linked_words address_of (coroutine_words t act) (map (with_frame d p pc) k.list) 0) old new)
    (sym (first_of-map address_of (with_frame d p pc) (λ x. refl) k.list 0))
    (exchange-right ((t + 17, first_of address_of k.list 0) ∷ []) _ _ old new list)
    in
    exchange-both ((t + 18, d) ∷ []) ((t + 18, first_active act 0) ∷ []) _ _ _ _ _ _ (exchange-all _ _)
    (exchange-both (root t k.root_p k.root_pc) _ _ _ _ _ _ _ (roots (eqb d 0)) headed)
  where
    roots : (u : Bool) → Exchange (root t k.root_p k.root_pc) ((t + 19, cond u p k.root_p) ∷ (t + 20, cond u pc k.root_pc) ∷ []) (cond u (root t k.root_p k.root_pc) []) (cond u (root t p pc) [])
    roots true = exchange-all (root t k.root_p k.root_pc) (root t p pc)
    roots false = exchange-none (root t k.root_p k.root_pc)

-- ---- where P and PC are saved

-- the root, or one of the coroutines
abbrev IsRootOr : ℕ → List Coroutine → Type 0
IsRootOr d xs = (d ≡ 0) ⊎ IsMember address_of d xs

unchosen : (f : Coroutine → Pairs) (xs : List Coroutine) → AllByRecursion (λ x. 0 < x.address) xs → flat_map (λ x. cond (eqb x.address 0) (f x) []) xs ≡ []
unchosen f [] some = refl
unchosen f (x ∷ xs) some = (let test : eqb x.address 0 ≡ false = grind (arith, nat_tests) in rw test (unchosen f xs some.1))

-- the frame at its two addresses
same-frame : (fp fpc : Coroutine → ℕ) (x : Coroutine) (a b : ℕ) → x.address + 0 ≡ a → x.address + 6 ≡ b → AreSame (frame fp fpc x) ((b, fpc x) ∷ (a, fp x) ∷ [])
same-frame fp fpc x a b here last =
    subst (λ z. AreSame (frame fp fpc x) ((b, fpc x) ∷ (z, fp x) ∷ [])) here
    (subst (λ z. AreSame (frame fp fpc x) ((z, fpc x) ∷ (x.address + 0, fp x) ∷ [])) last (same-swap (x.address + 0, fp x) (x.address + 6, fpc x)))

abbrev saved_pair : ℕ → ℕ → ℕ → ℕ → Pairs
saved_pair t d p pc = (saved_pc t d, pc) ∷ (saved_p t d, p) ∷ []

abbrev chosen : (Coroutine → ℕ) → (Coroutine → ℕ) → List Coroutine → ℕ → Pairs
chosen fp fpc xs d = flat_map (λ x. cond (eqb x.address d) (frame fp fpc x) []) xs

-- the two words of the frame, and what is known of them
record IsSaved (t d : ℕ) (A : Pairs) (Is : ℕ → ℕ → Type 0) : Type 0 where
  pub p : ℕ
  pub pc : ℕ
  pub is : Is p pc
  pub same : AreSame A (saved_pair t d p pc)

saved-words : (t d p pc : ℕ) (fp fpc : Coroutine → ℕ) (xs : List Coroutine) (Is : ℕ → ℕ → Type 0) → AllByRecursion (λ x. 0 < x.address) xs → IsRootOr d xs → Is p pc → ((x : Coroutine) → Is (fp x) (fpc x))
    → IsSaved t d (cond (eqb d 0) (root t p pc) [] ++ chosen fp fpc xs d) Is
saved-words t d p pc fp fpc xs Is some (inl e) of_root of_one =
    subst (λ z. IsSaved t z (cond (eqb z 0) (root t p pc) [] ++ chosen fp fpc xs z) Is) (sym e)
    (record {
      p = p;
      pc = pc;
      is = of_root;
      same = same-then _ _ _ (same-equal _ _ (ap (λ z. root t p pc ++ z) (unchosen (frame fp fpc) xs some))) (same-swap (t + 19, p) (t + 20, pc));
    })
saved-words t d p pc fp fpc xs Is some (inr m) of_root of_one =
    let x : Coroutine = m.member in
    let ne : d ≢ 0 = λ e. absurd (omega (arith, e, m.at, member-some m.front)) in
    let test : eqb d 0 ≡ false = grind (arith, nat_tests) in
    let at : (saved_p t d ≡ d) × (saved_pc t d ≡ d + 6) = saved-known t d ne in
    record {
      p = fp x;
      pc = fpc x;
      is = of_one x;
      same =
          subst (λ b. AreSame (cond b (root t p pc) [] ++ chosen fp fpc xs d) (saved_pair t d (fp x) (fpc x))) (sym test)
          (same-then _ _ _ (same-equal _ _ (one-chosen address_of d (frame fp fpc) xs m)) (same-frame fp fpc x _ _ (omega (arith, m.at, at.0)) (omega (arith, m.at, at.1))));
    }
  where
    member-some : (front : List Coroutine) → 0 < m.member.address
    member-some front = by m.front (subst (AllByRecursion (λ x. 0 < x.address)) m.is some)
      where
        by : (ys : List Coroutine) → AllByRecursion (λ x. 0 < x.address) (ys ++ m.member ∷ m.back) → 0 < m.member.address
        by [] all = all.0
        by (y ∷ ys) all = by ys all.1

-- the parent of one coroutine
parent-words : (t c : ℕ) (act : List ℕ) (xs : List Coroutine) → IsMember address_of c xs → flat_map (λ x. cond (eqb x.address c) (parent t act x) []) xs ≡ (c + 1, parent_of t act c) ∷ []
parent-words t c act xs m = one-chosen address_of c (parent t act) xs m ∙ ap (λ z. (z + 1, parent_of t act z) ∷ []) m.at

-- ---- the members

record Found (c : ℕ) (xs : List Coroutine) : Type 0 where
  pub front : List Coroutine
  pub member : Coroutine
  pub back : List Coroutine
  pub is : xs ≡ front ++ member ∷ back
  pub at : member.address ≡ c

found : (c : ℕ) (xs : List Coroutine) → has c (map address_of xs) ≡ true → Found c xs
found c [] some = cc
found c (x ∷ xs) some = on (eqb c x.address) refl some (found c xs)
  where
    on : (b : Bool) → eqb c x.address ≡ b → (b || has c (map address_of xs)) ≡ true → (has c (map address_of xs) ≡ true → Found c xs) → Found c (x ∷ xs)
    on true e some more = record { front = []; member = x; back = xs; is = refl; at = (let same : c ≡ x.address = grind (arith, nat_tests) in sym same) }
    on false e some more = (let f : Found c xs = more some in record { front = x ∷ f.front; member = f.member; back = f.back; is = ap (λ z. x ∷ z) f.is; at = f.at })

member : (s : List ℕ) (t c : ℕ) (xs : List Coroutine) (act : List ℕ) → HeldCoroutines s t xs act → has c (map address_of xs) ≡ true → IsMember address_of c xs
member s t c xs act h some =
    let f : Found c xs = found c xs some in
    let list : IsListAt s coroutine_link coroutine_size (t + 17) (map address_of xs) =
    held-list address_of (coroutine_words t act) coroutine_link coroutine_size (are_coroutines s t act) s (t + 17) xs h.held
    in
    let apart : IsApart (map address_of xs) =
    subst IsApart list.list (nodes-apart s coroutine_link coroutine_size (t + 17) (list_at s coroutine_link (t + 17)) list.valid)
    in
    record { front = f.front; member = f.member; back = f.back; is = f.is; at = f.at; once = omega (arith, apart c, has-times c (map address_of xs) some) }

-- none of the active ones is at 0
active-some : (xs : List Coroutine) (act : List ℕ) → AllByRecursion (λ x. 0 < x.address) xs → AllByRecursion (λ c. has c (map address_of xs) ≡ true) act → AllByRecursion (λ c. 0 < c) act
active-some xs [] some members = tt
active-some xs (c ∷ cs) some members = (all-has (λ a. 0 < a) c (map address_of xs) (addresses xs some) members.0, active-some xs cs some members.1)
  where
    addresses : (ys : List Coroutine) → AllByRecursion (λ x. 0 < x.address) ys → AllByRecursion (λ a. 0 < a) (map address_of ys)
    addresses [] some = tt
    addresses (y ∷ ys) some = (some.0, addresses ys some.1)

-- the current one is the root, or one of the coroutines
current-member : (s : List ℕ) (t : ℕ) (k : TaskCoroutines) → HoldsCoroutines s t k → IsRootOr (current_of k) k.list
current-member s t k h = on k.active h.coroutines.members
  where
    on : (act : List ℕ) → AllByRecursion (λ c. has c (map address_of k.list) ≡ true) act → IsRootOr (first_active act 0) k.list
    on [] members = inl refl
    on (c ∷ cs) members = inr (member s t c k.list k.active h.coroutines members.0)

pub holds-owned : (s : List ℕ) (t : ℕ) (k : TaskCoroutines) → HoldsCoroutines s t k → Holds s (words_of_coroutines t k)
holds-owned s t k h = (h.coroutines.current, (h.root_p, (h.root_pc, h.coroutines.held.holds)))

-- ---- the calls

module _ (s : List ℕ) (t : ℕ) (k : TaskCoroutines) (h : HoldsCoroutines s t k) where
  some : AllByRecursion (λ x. 0 < x.address) k.list
  some = h.coroutines.held.some

  -- any switch, where these are the parents' words that it writes
  switch-rewrites : (v : List ℕ) (p pc : ℕ) (act : List ℕ) (w : ℕ → Bool) → ((a : ℕ) → w a ≡ false → parent_of t act a ≡ parent_of t k.active a) → (old new : Pairs)
      → AreSame (flat_map (λ x. cond (w x.address) (parent t k.active x) []) k.list) old → AreSame (flat_map (λ x. cond (w x.address) (parent t act x) []) k.list) new
      → ((p' pc' : ℕ) → pairs_in s (new ++ switch_words t k p pc (first_active act 0)) ≡ pairs_in s (old ++ switch_words t k p' pc' (current_of k)))
      → v ≡ written (new ++ switch_words t k p pc (first_active act 0)) s
      → Rewrites s v (words_of_coroutines t k) (words_of_coroutines t (record (with_saved p pc k) { active = act })) (new ++ switch_words t k p pc (first_active act 0))
  switch-rewrites v p pc act w same old new of_old of_new addresses words =
      let d : ℕ = current_of k in
      let one : IsRootOr d k.list = current-member s t k h in
      let before = saved-words t d k.root_p k.root_pc (λ x. x.saved_p) (λ x. x.saved_pc) k.list (λ p' pc'. Unit {0}) some one tt (λ x. tt) in
      let after = saved-words t d p pc (λ x. p) (λ x. pc) k.list (λ p' pc'. (p' ≡ p) × (pc' ≡ pc)) some one (refl, refl) (λ x. (refl, refl)) in
      rewrites s v _ _ (old ++ switch_words t k before.p before.pc d) _ (holds-owned s t k h)
      (exchange-same _ _ _ _ _ _ (switch-exchange t k p pc act w same)
      (same-gathered (t + 18, d) (cond (eqb d 0) (root t k.root_p k.root_pc) []) _ _ k.list _ old before.same of_old)
      (same-then _ _ _
      (same-gathered (t + 18, first_active act 0) (cond (eqb d 0) (root t p pc) []) _ _ k.list _ new after.same of_new)
      (same-equal _ _
      (ap (λ z. new ++ switch_words t k after.p z (first_active act 0)) after.is.1 ∙ ap (λ z. new ++ switch_words t k z pc (first_active act 0)) after.is.0))))
      (addresses before.p before.pc) words

  call-exchange : (regs : Regs) (c : ℕ) → has c (map address_of k.list) ≡ true → CallExchange s (called s t regs c) t k c regs.p regs.pc
  call-exchange regs c known =
      let d : ℕ = current_of k in
      let m : IsMember address_of c k.list = member s t c k.list k.active h.coroutines known in
      let test : eqb c c ≡ true = grind (arith, nat_tests) in
      let up : parent_of t (c ∷ k.active) c ≡ as_parent t d =
      ap (λ b. cond b (first_active k.active t) (parent_of t k.active c)) test ∙ outer k.active (active-some k.list k.active some h.coroutines.members)
      in
      switch-rewrites (called s t regs c) regs.p regs.pc (c ∷ k.active) (λ a. eqb a c) (λ a e. ap (λ b. cond b (first_active k.active t) (parent_of t k.active a)) e)
      ((c + 1, parent_of t k.active c) ∷ []) ((c + 1, as_parent t d) ∷ [])
      (same-equal _ _ (parent-words t c k.active k.list m)) (same-equal _ _ (parent-words t c (c ∷ k.active) k.list m ∙ ap (λ z. (c + 1, z) ∷ []) up))
      (λ p' pc'. refl)
      (ap (λ z. set (set (set (set s (saved_p t z) regs.p) (saved_pc t z) regs.pc) (t + 18) c) (c + 1) (as_parent t z)) h.coroutines.current)
    where
      outer : (act : List ℕ) → AllByRecursion (λ c. 0 < c) act → first_active act t ≡ as_parent t (first_active act 0)
      outer [] some = refl
      outer (a ∷ rest) some = (let test : eqb a 0 ≡ false = grind (arith, nat_tests) in sym (ap (λ b. cond b t a) test))

  -- the current one within the root, and those outwards of it
  abbrev outwards : List ℕ
  outwards = drop 1 k.active

  record Within : Type 0 where
    pub split : k.active ≡ current_of k ∷ outwards
    pub known : has (current_of k) (map address_of k.list) ≡ true
    pub gone : has (current_of k) outwards ≡ false
    -- its parent, and what is current after it
    pub parent_word : parent_in s (current_of k) ≡ first_active outwards t
    pub next : as_current t (first_active outwards t) ≡ first_active outwards 0

  within : current_of k ≢ 0 → Within
  within ne =
      let d : ℕ = current_of k in
      let split : k.active ≡ d ∷ outwards = parted k.active ne in
      let members : AllByRecursion (λ c. has c (map address_of k.list) ≡ true) (d ∷ outwards) = subst (AllByRecursion (λ c. has c (map address_of k.list) ≡ true)) split h.coroutines.members in
      let apart : IsApart (d ∷ outwards) = subst IsApart split h.coroutines.distinct in
      let built-lists : Built s t (map address_of k.list) k.active = held-coroutines s t k.active k.list h.coroutines in
      let test : eqb d d ≡ true = grind (arith, nat_tests) in
      record {
        split = split;
        known = members.0;
        gone = has-none d outwards (omega (arith, apart d, hit-same d d refl));
        parent_word =
            all-has (λ c. parent_in s c ≡ parent_of t k.active c) d (map address_of k.list) (held-parents s t k.active k.list h.coroutines) members.0
            ∙ ap (λ z. parent_of t z d) split ∙ ap (λ b. cond b (first_active outwards t) (parent_of t outwards d)) test;
        next = inward outwards (others built-lists outwards members.1);
      }
    where
      parted : (act : List ℕ) → first_active act 0 ≢ 0 → act ≡ first_active act 0 ∷ drop 1 act
      parted [] ne = absurd (ne refl)
      parted (a ∷ rest) ne = refl

      others : Built s t (map address_of k.list) k.active → (act : List ℕ) → AllByRecursion (λ c. has c (map address_of k.list) ≡ true) act → AllByRecursion (λ c. c ≢ t) act
      others b [] members = tt
      others b (c ∷ rest) members =
          ((λ e. absurd (task-apart s t c 0 0 b.valid (ap (has c) b.list ∙ members.0) (omega arith) (omega arith) (omega (arith, e)))), others b rest members.1)

      inward : (act : List ℕ) → AllByRecursion (λ c. c ≢ t) act → as_current t (first_active act t) ≡ first_active act 0
      inward [] other = (let test : eqb t t ≡ true = grind (arith, nat_tests) in ap (λ b. cond b 0 t) test)
      inward (a ∷ rest) other = (let ne : a ≢ t = other.0 in let test : eqb a t ≡ false = grind (arith, nat_tests) in ap (λ b. cond b 0 a) test)

  wait-exchange : (p pc : ℕ) → current_of k ≢ 0 → WaitExchange s (waited s t p pc) t k p pc
  wait-exchange p pc ne =
      let d : ℕ = current_of k in
      let i : Within = within ne in
      let m : IsMember address_of d k.list = member s t d k.list k.active h.coroutines i.known in
      switch-rewrites (waited s t p pc) p pc outwards (λ a. eqb a d)
      (λ a e. sym (ap (λ z. parent_of t z a) i.split ∙ ap (λ b. cond b (first_active outwards t) (parent_of t outwards a)) e))
      ((d + 1, parent_of t k.active d) ∷ []) ((d + 1, 0) ∷ [])
      (same-equal _ _ (parent-words t d k.active k.list m))
      (same-equal _ _ (parent-words t d outwards k.list m ∙ ap (λ z. (d + 1, z) ∷ []) (parent_of-none t outwards d i.gone)))
      (λ p' pc'. refl)
      (subst (λ y. waited s t p pc ≡ set (set (set (set s (saved_p t d) p) (saved_pc t d) pc) (t + 18) y) (d + 1) 0) (ap (as_current t) i.parent_word ∙ i.next)
      (ap (λ z. set (set (set (set s (saved_p t z) p) (saved_pc t z) pc) (t + 18) (as_current t (parent_in s z))) (z + 1) 0) h.coroutines.current))

  -- the function of a coroutine
  function-held : (d : ℕ) (xs : List Coroutine) (end : ℕ) → Holds s (linked_words address_of (coroutine_words t k.active) xs end) → has d (map address_of xs) ≡ true → function_in s d ≡ function_of d xs
  function-held d [] end own known = cc
  function-held d (x ∷ xs) end own known =
      elim (cases_eq x.address d) [
        | inl e ↦ here e
        | inr ne ↦ behind ne (function-held d xs end (Holds-right s (coroutine_words t k.active x (first_of address_of xs end)) (linked_words address_of (coroutine_words t k.active) xs end) own))
      ]
    where
      here : x.address ≡ d → function_in s d ≡ function_of d (x ∷ xs)
      here e =
          let test : eqb x.address d ≡ true = grind (arith, nat_tests) in
          let first = Holds-left s (coroutine_words t k.active x (first_of address_of xs end)) (linked_words address_of (coroutine_words t k.active) xs end) own in
          ap (λ z. get_or s (z + 3) 0) (sym e) ∙ first.1.1.1.0 ∙ sym (ap (λ b. cond b x.function (function_of d xs)) test)

      behind : x.address ≢ d → (has d (map address_of xs) ≡ true → function_in s d ≡ function_of d xs) → function_in s d ≡ function_of d (x ∷ xs)
      behind ne more =
          let test : eqb x.address d ≡ false = grind (arith, nat_tests) in
          let other : eqb d x.address ≡ false = grind (arith, nat_tests) in
          more (sym (ap (λ b. b || has d (map address_of xs)) other) ∙ known) ∙ sym (ap (λ b. cond b x.function (function_of d xs)) test)

  end-exchange : current_of k ≢ 0 → EndExchange s (returned s t) t k
  end-exchange ne =
      let d : ℕ = current_of k in
      let words : returned s t ≡ waited s t (bottom d) (function_of d k.list) =
      ap (λ z. waited s t (bottom z) (function_in s z)) h.coroutines.current
      ∙ ap (waited s t (bottom d)) (function-held d k.list 0 h.coroutines.held.holds.1 (within ne).known)
      in
      subst (λ v. EndExchange s v t k) (sym words) (wait-exchange (bottom d) (function_of d k.list) ne)

  -- the parents of two coroutines
  two-parents : (act : List ℕ) (d c : ℕ) → d ≢ c → IsMember address_of d k.list → IsMember address_of c k.list
      → AreSame (flat_map (λ x. cond (eqb x.address d || eqb x.address c) (parent t act x) []) k.list) ((d + 1, parent_of t act d) ∷ (c + 1, parent_of t act c) ∷ [])
  two-parents act d c ne md mc =
      same-then _ _ _ (same-equal _ _ (pieces k.list))
      (same-pieces (λ x. cond (eqb x.address d) (parent t act x) []) (λ x. cond (eqb x.address c) (parent t act x) []) k.list ((d + 1, parent_of t act d) ∷ []) ((c + 1, parent_of t act c) ∷ [])
      (parent-words t d act k.list md) (parent-words t c act k.list mc))
    where
      split : (x : Coroutine) (u v : Bool) → eqb x.address d ≡ u → eqb x.address c ≡ v → cond (u || v) (parent t act x) [] ≡ cond u (parent t act x) [] ++ cond v (parent t act x) []
      split x true true e f = (let one : x.address ≡ d = grind (arith, nat_tests) in let two : x.address ≡ c = grind (arith, nat_tests) in absurd (ne (sym one ∙ two)))
      split x true false e f = refl
      split x false v e f = refl

      pieces : (xs : List Coroutine) → flat_map (λ x. cond (eqb x.address d || eqb x.address c) (parent t act x) []) xs
          ≡ flat_map (λ x. cond (eqb x.address d) (parent t act x) [] ++ cond (eqb x.address c) (parent t act x) []) xs
      pieces [] = refl
      pieces (x ∷ xs) =
          ap (λ z. z ++ flat_map (λ x. cond (eqb x.address d || eqb x.address c) (parent t act x) []) xs) (split x (eqb x.address d) (eqb x.address c) refl refl)
          ∙ ap (λ z. (cond (eqb x.address d) (parent t act x) [] ++ cond (eqb x.address c) (parent t act x) []) ++ z) (pieces xs)

  replace-exchange : (regs : Regs) (c : ℕ) → current_of k ≢ 0 → current_of k ≢ c → has c (map address_of k.list) ≡ true
      → Rewrites s (replaced s t regs c) (words_of_coroutines t k) (words_of_coroutines t (record (with_saved regs.p regs.pc k) { active = c ∷ outwards }))
      ((current_of k + 1, 0) ∷ (c + 1, first_active outwards t) ∷ switch_words t k regs.p regs.pc c)
  replace-exchange regs c ne other known =
      let d : ℕ = current_of k in
      let i : Within = within ne in
      let md : IsMember address_of d k.list = member s t d k.list k.active h.coroutines i.known in
      let mc : IsMember address_of c k.list = member s t c k.list k.active h.coroutines known in
      let test : eqb c c ≡ true = grind (arith, nat_tests) in
      let test' : eqb d c ≡ false = grind (arith, nat_tests) in
      let up : parent_of t (c ∷ outwards) c ≡ first_active outwards t = ap (λ b. cond b (first_active outwards t) (parent_of t outwards c)) test in
      let none : parent_of t (c ∷ outwards) d ≡ 0 = ap (λ b. cond b (first_active outwards t) (parent_of t outwards d)) test' ∙ parent_of-none t outwards d i.gone in
      switch-rewrites (replaced s t regs c) regs.p regs.pc (c ∷ outwards) (λ a. eqb a d || eqb a c) (λ a e. stays a i (eqb a d) (eqb a c) refl refl e)
      ((d + 1, parent_of t k.active d) ∷ (c + 1, parent_of t k.active c) ∷ []) ((d + 1, 0) ∷ (c + 1, first_active outwards t) ∷ [])
      (two-parents k.active d c other md mc)
      (same-then _ _ _ (two-parents (c ∷ outwards) d c other md mc)
      (same-values (d + 1) (c + 1) _ _ _ _ none up))
      (λ p' pc'. refl)
      (subst (λ y. replaced s t regs c ≡ set (set (set (set (set s (saved_p t d) regs.p) (saved_pc t d) regs.pc) (t + 18) c) (c + 1) y) (d + 1) 0) i.parent_word
      (ap (λ z. set (set (set (set (set s (saved_p t z) regs.p) (saved_pc t z) regs.pc) (t + 18) c) (c + 1) (parent_in s z)) (z + 1) 0) h.coroutines.current))
    where
      stays : (a : ℕ) → Within → (u v : Bool) → eqb a (current_of k) ≡ u → eqb a c ≡ v → (u || v) ≡ false → parent_of t (c ∷ outwards) a ≡ parent_of t k.active a
      stays a i true v e f none = cc
      stays a i false true e f none = cc
      stays a i false false e f none =
          ap (λ b. cond b (first_active outwards t) (parent_of t outwards a)) f
          ∙ sym (ap (λ z. parent_of t z a) i.split ∙ ap (λ b. cond b (first_active outwards t) (parent_of t outwards a)) e)

  resume-exchange : (regs : Regs) (c : ℕ) → current_of k ≢ 0 → has c (map address_of k.list) ≡ true → ResumeExchange s (resumed s t regs c) t k c regs.p regs.pc
  resume-exchange regs c ne known =
      subst (λ z. ResumeExchange s (cond (eqb z c) s (replaced s t regs c)) t k c regs.p regs.pc) (sym h.coroutines.current) (on (eqb (current_of k) c) refl)
    where
      on : (b : Bool) → eqb (current_of k) c ≡ b
          → Rewrites s (cond b s (replaced s t regs c)) (words_of_coroutines t k) (words_of_coroutines t (cond b k (record (with_saved regs.p regs.pc k) { active = c ∷ outwards })))
          (cond b [] ((current_of k + 1, 0) ∷ (c + 1, first_active outwards t) ∷ switch_words t k regs.p regs.pc c))
      on true e = record { exchange = exchange-none (words_of_coroutines t k); writes = refl }
      on false e = (let other : current_of k ≢ c = grind (arith, nat_tests) in replace-exchange regs c ne other known)

  -- ---- from the answers

  listed : (c : ℕ) → is_known s t c ≡ true → has c (map address_of k.list) ≡ true
  listed c known = sym (ap (has c) (held-coroutines s t k.active k.list h.coroutines).list) ∙ known

  pub call-answered : (regs : Regs) (c : ℕ) → idle_answer s t c ≡ Ok tt → CallExchange s (called s t regs c) t k c regs.p regs.pc
  call-answered regs c answer = call-exchange regs c (listed c (idle s t c tt (sym answer)).known)

  is-within : is_within s t ≡ true → current_of k ≢ 0
  is-within inner e =
      let root : current_in s t ≡ 0 = h.coroutines.current ∙ e in
      let test : eqb (current_in s t) 0 ≡ true = grind (arith, nat_tests) in
      false≢true (sym (ap not test) ∙ inner)

  pub wait-answered : (p pc : ℕ) → wait_answer s t ≡ Ok tt → WaitExchange s (waited s t p pc) t k p pc
  wait-answered p pc answer = wait-exchange p pc (is-within (on (is_within s t) answer))
    where
      on : (b : Bool) → first_refusal ((b, NoParent) ∷ []) ≡ Ok tt → b ≡ true
      on true answer = refl
      on false answer = cc

  pub resume-answered : (regs : Regs) (c : ℕ) → resume_answer s t c ≡ Ok tt → ResumeExchange s (resumed s t regs c) t k c regs.p regs.pc
  resume-answered regs c answer =
      let both : (is_known s t c ≡ true) × (is_within s t ≡ true) = on (is_known s t c) (is_within s t) (not (has_parent s t c) || eqb (current_in s t) c) answer in
      resume-exchange regs c (is-within both.1) (listed c both.0)
    where
      on : (a b d : Bool) → first_refusal ((a, Unknown) ∷ (b, NoParent) ∷ (d, HasParent) ∷ []) ≡ Ok tt → (a ≡ true) × (b ≡ true)
      on false b d answer = cc
      on true false d answer = cc
      on true true d answer = (refl, refl)

  pub end-answered : current_in s t ≢ 0 → EndExchange s (returned s t) t k
  end-answered ne = end-exchange (λ e. ne (h.coroutines.current ∙ e))
