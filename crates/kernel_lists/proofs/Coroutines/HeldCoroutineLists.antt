-- Coroutines whose words a store holds are the task's coroutines.
use Rattle.std.proofs.Common.{◌≡◌, ◌≢◌, ℕ, ◌+◌, ◌<◌, List, [], ◌∷◌, ◌++◌, map, get_or, cond, eqb, ◌||◌, Bool, true, false, Some, refl, sym, ap, ◌∙◌, subst, arith, add-zero}
use Rattle.std.specs.List.{AllByRecursion, range_with_len}
use Rattle.std.proofs.lemmas.Bool.{false≢true}
use Rattle.std.proofs.lemmas.Bool.Decides.{nat_tests}
use Rattle.kernel_lists.specs.GetvecChain.Block.{used_block}
use Rattle.kernel_lists.specs.GetvecChain.Run.{need}
use Rattle.word_store.specs.Count.{IsApart, times, words_of}
use Rattle.kernel_lists.specs.LinkedList.Linked.{IsListAt}
use Rattle.kernel_lists.specs.LinkedList.Places.{has}
use Rattle.kernel_lists.proofs.LinkedList.AllMembers.{all-has}
use Rattle.word_store.proofs.Counts.{hit-same, times-append}
use Rattle.kernel_lists.specs.OwnedWords.LinkedWords.{AreNodes, first_of, linked_words}
use Rattle.kernel_lists.specs.OwnedWords.Owned.{Holds}
use Rattle.kernel_lists.proofs.OwnedWords.Exchanges.{exchange-row}
use Rattle.kernel_lists.proofs.OwnedWords.HeldLists.{held-count, held-list}
use Rattle.kernel_lists.proofs.OwnedWords.OwnedWords.{Holds-left, Holds-right}
use Rattle.kernel_lists.proofs.OwnedWords.RowWords.{owners-row}
use Rattle.kernel_lists.specs.TaskBlock.Lists.{coroutine_link}
use Rattle.kernel_lists.specs.Coroutines.Active.{LeadsOut}
use Rattle.kernel_lists.specs.Coroutines.Coroutines.{HasBlock}
use Rattle.kernel_lists.specs.Coroutines.CoroutineWords.{coroutine_size, highest_in, parent_in}
use Rattle.kernel_lists.specs.Coroutines.HeldCoroutines.{Coroutine, HasCoroutineBlock, HeldCoroutines, address_of, coroutine_words, first_active, parent_of}
use Rattle.kernel_lists.proofs.Coroutines.CoroutineLists.{Built, built}

pub parent_of-none : (t : ℕ) (act : List ℕ) (c : ℕ) → has c act ≡ false → parent_of t act c ≡ 0
parent_of-none t [] c none = refl
parent_of-none t (d ∷ ds) c none = on (eqb c d) refl (parent_of-none t ds c)
  where
    on : (b : Bool) → eqb c d ≡ b → (has c ds ≡ false → parent_of t ds c ≡ 0) → parent_of t (d ∷ ds) c ≡ 0
    on true e more = absurd (false≢true (sym none ∙ ap (λ b. b || has c ds) e))
    on false e more = ap (λ b. cond b (first_active ds t) (parent_of t ds c)) e ∙ more (sym (ap (λ b. b || has c ds) e) ∙ none)

-- the parents lead out
leads-out : (s : List ℕ) (t : ℕ) (pre cs : List ℕ) (at end : ℕ) → IsApart (pre ++ cs) → get_or s at 0 ≡ first_active cs end
    → AllByRecursion (λ c. parent_in s c ≡ parent_of t (pre ++ cs) c) cs → LeadsOut s t end at cs
leads-out s t pre [] at end apart here each = here
leads-out s t pre (c ∷ cs) at end apart here each = (
  here,
  leads-out s t (pre ++ c ∷ []) cs (c + 1) t (subst IsApart (shift pre) apart)
      (each.0 ∙ next pre (λ some. absurd (omega (arith, some, apart c, times-append c pre (c ∷ cs), hit-same c c refl))))
      (subst (λ z. AllByRecursion (λ d. parent_in s d ≡ parent_of t z d) cs) (shift pre) each.1),
)
  where
    shift : (xs : List ℕ) → xs ++ c ∷ cs ≡ (xs ++ c ∷ []) ++ cs
    shift [] = refl
    shift (x ∷ xs) = ap (λ z. x ∷ z) (shift xs)

    next : (xs : List ℕ) → (0 < times c xs → ⊥) → parent_of t (xs ++ c ∷ cs) c ≡ first_active cs t
    next [] none = (let test : eqb c c ≡ true = grind (arith, nat_tests) in ap (λ b. cond b (first_active cs t) (parent_of t cs c)) test)
    next (x ∷ xs) none =
        let ne : c ≢ x = λ e. none (omega (arith, hit-same c x e)) in
        let test : eqb c x ≡ false = grind (arith, nat_tests) in
        ap (λ b. cond b (first_active (xs ++ c ∷ cs) t) (parent_of t (xs ++ c ∷ cs) c)) test ∙ next xs (λ some. none (omega (arith, some)))

module _ (s : List ℕ) (t : ℕ) (act : List ℕ) where
  pub are_coroutines : AreNodes address_of (coroutine_words t act) coroutine_link coroutine_size
  are_coroutines =
      record {
        links = λ x n m. exchange-row x.address 0 n m (x.saved_p ∷ parent_of t act x.address ∷ []) (x.function ∷ x.highest ∷ x.address ∷ x.saved_pc ∷ 0 ∷ 0 ∷ x.function ∷ []);
        low = λ x. omega arith;
        high = λ x. omega arith;
        count = λ a x n.
            omega (
              arith,
              owners-row a x.address 0 (x.saved_p ∷ parent_of t act x.address ∷ n ∷ x.function ∷ x.highest ∷ x.address ∷ x.saved_pc ∷ 0 ∷ 0 ∷ x.function ∷ [])
                  ∙ ap (λ z. times a (range_with_len z 10)) (add-zero x.address),
            );
      }

  -- what follows from the parent and the highest index of each coroutine
  each-held : (P : ℕ → Type 0) (cs : List Coroutine) (end : ℕ) → Holds s (linked_words address_of (coroutine_words t act) cs end) → AllByRecursion (HasCoroutineBlock s) cs
      → ((c : Coroutine) → HasCoroutineBlock s c → parent_in s c.address ≡ parent_of t act c.address → highest_in s c.address ≡ c.highest → P c.address) → AllByRecursion P (map address_of cs)
  each-held P [] end h blocks each = tt
  each-held P (c ∷ cs) end h blocks each =
      let own = Holds-left s (coroutine_words t act c (first_of address_of cs end)) (linked_words address_of (coroutine_words t act) cs end) h in
      (each c blocks.0 own.1.0 own.1.1.1.1.0, each-held P cs end (Holds-right s (coroutine_words t act c (first_of address_of cs end)) (linked_words address_of (coroutine_words t act) cs end) h) blocks.1 each)

  all-active : (P : ℕ → Type 0) (cs act : List ℕ) → AllByRecursion P cs → AllByRecursion (λ c. has c cs ≡ true) act → AllByRecursion P act
  all-active P cs [] each members = tt
  all-active P cs (c ∷ act) each members = (all-has P c cs each members.0, all-active P cs act each members.1)

  pub held-parents : (cs : List Coroutine) → HeldCoroutines s t cs act → AllByRecursion (λ c. parent_in s c ≡ parent_of t act c) (map address_of cs)
  held-parents cs h = each-held (λ c. parent_in s c ≡ parent_of t act c) cs 0 h.held.holds.1 h.blocks (λ c block up highest. up)

  pub held-coroutines : (cs : List Coroutine) → HeldCoroutines s t cs act → Built s t (map address_of cs) act
  held-coroutines cs h =
      let list : IsListAt s coroutine_link coroutine_size (t + 17) (map address_of cs) = held-list address_of (coroutine_words t act) coroutine_link coroutine_size are_coroutines s (t + 17) cs h.held in
      let parents : AllByRecursion (λ c. parent_in s c ≡ parent_of t act c) (map address_of cs) = held-parents cs h in
      built s t (map address_of cs) act
      (record {
        tiled = h.tiled;
        task = h.task;
        elsewhere = h.elsewhere;
        list = list;
        apart = λ a.
            omega (
              arith,
              h.apart a,
              held-count address_of (coroutine_words t act) coroutine_link coroutine_size are_coroutines a cs 0,
              times-append a (range_with_len t 23) (words_of coroutine_size (map address_of cs)),
            );
        blocks = each-held (HasBlock s) cs 0 h.held.holds.1 h.blocks (λ c b parent highest.
            record {
              start = b.start;
              here = b.here;
              block = b.block ∙ ap (λ z. Some (used_block b.start (need z))) (sym highest);
              high = omega (arith, highest, b.high);
            });
        out = leads-out s t [] act (t + 18) 0 h.distinct h.current (all-active (λ c. parent_in s c ≡ parent_of t act c) (map address_of cs) act parents h.members);
        members = h.members;
        distinct = h.distinct;
        idle = each-held (λ c. has c act ≡ false → parent_in s c ≡ 0) cs 0 h.held.holds.1 h.blocks (λ c block parent highest none. parent ∙ parent_of-none t act c.address none);
      })
