-- The P and the PC that a store has for a coroutine, or for the root, and the registers that they make.
use Rattle.std.proofs.Common.{◌≡◌, ◌≢◌, ℕ, ◌+◌, ◌<◌, ◌⊎◌, List, [], ◌∷◌, cond, eqb, ◌||◌, get_or, map, true, false, Some, refl, sym, ap, ◌∙◌, subst, arith, inl, inr, add-zero}
use Rattle.std.specs.Prelude.{find}
use Rattle.std.specs.List.{AllByRecursion}
use Rattle.std.specs.Option.{option_map_or}
use Rattle.std.proofs.lemmas.Bool.{cases_eq, eq-eqb, ne_eqb}
use Rattle.word_store.specs.declared.registers.Regs.{Regs}
use Rattle.kernel_lists.specs.LinkedList.Places.{has}
use Rattle.kernel_lists.proofs.LinkedList.AllMembers.{all-has}
use Rattle.kernel_lists.specs.Coroutines.CoroutineExchanges.{HoldsCoroutines, TaskCoroutines}
use Rattle.kernel_lists.specs.Coroutines.CoroutineWords.{saved_p, saved_pc}
use Rattle.kernel_lists.specs.Coroutines.HeldCoroutines.{Coroutine, address_of, coroutine_words, first_active}
use Rattle.kernel_lists.specs.Coroutines.Switch as store
use Rattle.kernel_lists.proofs.Coroutines.Switches.{saved-known}
use Rattle.kernel_model.proofs.KernelRecord.EachMember.{all-addresses, holds-each}
use Rattle.kernel_calls.specs.CoroutineCalls.CallersCoroutines.{is_one_of}
use Rattle.kernel_calls.specs.CoroutineCalls.SwitchChange.{entered, of_one, p_of, pc_of}

-- 0, which names the root, or one of the coroutines
abbrev pub IsRootOr : ℕ → TaskCoroutines → Type 0
IsRootOr c k = (c ≡ 0) ⊎ (is_one_of c k ≡ true)

-- the first of active ones is one of them, and the root is named where there is none
pub first-one : (act : List ℕ) (k : TaskCoroutines) → AllByRecursion (λ c. has c (map address_of k.list) ≡ true) act → IsRootOr (first_active act 0) k
first-one [] k members = inl refl
first-one (c ∷ cs) k members = inr members.0

module _ (s : List ℕ) (t : ℕ) (k : TaskCoroutines) (h : HoldsCoroutines s t k) where
  abbrev HasFrame : Coroutine → Type 0
  HasFrame x = (get_or s x.address 0 ≡ x.saved_p) × (get_or s (x.address + 6) 0 ≡ x.saved_pc)

  frames : AllByRecursion HasFrame k.list
  frames =
      holds-each address_of (coroutine_words t k.active) s HasFrame (λ x n own. (ap (λ a. get_or s a 0) (sym (add-zero x.address)) ∙ own.0, own.1.1.1.1.1.1.0)) k.list 0
      h.coroutines.held.holds.1

  abbrev Reads : ℕ → List Coroutine → Type 0
  Reads c xs = (get_or s c 0 ≡ of_one (λ x. x.saved_p) c xs) × (get_or s (c + 6) 0 ≡ of_one (λ x. x.saved_pc) c xs)

  one-reads : (c : ℕ) (xs : List Coroutine) → has c (map address_of xs) ≡ true → AllByRecursion HasFrame xs → Reads c xs
  one-reads c [] known all = cc
  one-reads c (x ∷ xs) known all = elim (cases_eq x.address c) [ inl e ↦ here e | inr ne ↦ behind ne (λ more. one-reads c xs more all.1) ]
    where
      here : x.address ≡ c → Reads c (x ∷ xs)
      here e =
          let test : eqb x.address c ≡ true = eq-eqb x.address c e in (
            ap (λ a. get_or s a 0) (sym e) ∙ all.0.0 ∙ sym (ap (λ b. option_map_or (λ (x : Coroutine). x.saved_p) (cond b (Some x) (find (λ x. eqb x.address c) xs)) 0) test),
            ap (λ a. get_or s (a + 6) 0) (sym e) ∙ all.0.1 ∙ sym (ap (λ b. option_map_or (λ (x : Coroutine). x.saved_pc) (cond b (Some x) (find (λ x. eqb x.address c) xs)) 0) test),
          )

      behind : x.address ≢ c → (has c (map address_of xs) ≡ true → Reads c xs) → Reads c (x ∷ xs)
      behind ne more =
          let test : eqb x.address c ≡ false = ne_eqb x.address c ne in
          let r : Reads c xs = more (sym (ap (λ b. b || has c (map address_of xs)) (ne_eqb c x.address (λ e. ne (sym e)))) ∙ known) in (
            r.0 ∙ sym (ap (λ b. option_map_or (λ (x : Coroutine). x.saved_p) (cond b (Some x) (find (λ x. eqb x.address c) xs)) 0) test),
            r.1 ∙ sym (ap (λ b. option_map_or (λ (x : Coroutine). x.saved_pc) (cond b (Some x) (find (λ x. eqb x.address c) xs)) 0) test),
          )

  -- none of them is at 0
  one-some : (c : ℕ) → is_one_of c k ≡ true → c ≢ 0
  one-some c known e =
      absurd (omega (arith, e, all-has (λ a. 0 < a) c (map address_of k.list) (all-addresses (λ a. 0 < a) address_of k.list h.coroutines.held.some) known))

  frame-reads : (c : ℕ) → IsRootOr c k → (get_or s (saved_p t c) 0 ≡ p_of c k) × (get_or s (saved_pc t c) 0 ≡ pc_of c k)
  frame-reads c (inl e) = subst (λ z. (get_or s (saved_p t z) 0 ≡ p_of z k) × (get_or s (saved_pc t z) 0 ≡ pc_of z k)) (sym e) (h.root_p, h.root_pc)
  frame-reads c (inr known) =
      let some : c ≢ 0 = one-some c known in
      let test : eqb c 0 ≡ false = ne_eqb c 0 some in
      let at : (saved_p t c ≡ c) × (saved_pc t c ≡ c + 6) = saved-known t c some in
      let r : Reads c k.list = one-reads c k.list known frames in (
        ap (λ a. get_or s a 0) at.0 ∙ r.0 ∙ sym (ap (λ b. cond b k.root_p (of_one (λ x. x.saved_p) c k.list)) test),
        ap (λ a. get_or s a 0) at.1 ∙ r.1 ∙ sym (ap (λ b. cond b k.root_pc (of_one (λ x. x.saved_pc) c k.list)) test),
      )

  -- so these are the registers with which it goes on
  pub regs-read : (c v : ℕ) (r : Regs) → IsRootOr c k → store.entered s t r c v ≡ entered c v k r
  regs-read c v r one = (let f = frame-reads c one in λ i. record r { a = v; b = 0; p = f.0 i; pc = f.1 i })
