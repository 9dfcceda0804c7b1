-- A key is found in a table whose keys are in the order of the search.
use Rattle.std.proofs.Common.{◌≡◌, ◌≢◌, ◌∙◌, sym, ap, ℕ, zero, suc, ◌+◌, ◌*◌, ◌/◌, ◌%◌, ◌^◌, ◌<◌, ◌≤◌, ◌⊎◌, inl, inr, List, Result, refl, arith}
use Rattle.std.proofs.Math.Nat.{div-div-eq-div-mul, div-le_self, pow-suc}
use Rattle.std.proofs.lemmas.Bool.{cases_lt}
use Rattle.std.proofs.lemmas.Bool.Decides.{nat_tests}
use Rattle.word_store.specs.Arithmetic.{add}
use Rattle.word_store.specs.declared.registers.Regs.{Regs}
use Rattle.instruction_set.specs.OperandForms.Steps.{◌>>=◌}
use Rattle.instruction_set.specs.declared.Fault.{Fault}
use Rattle.instruction_set.specs.Change.{Change}
use Rattle.instruction_set.specs.SearchOrder.{HasKeys, IsSearchOrder, IsUnder}
use Rattle.instruction_set.specs.Switch.{compared, jump_by, search_from, switch_by_key}
use Rattle.instruction_set.proofs.KeySearch.{past_last, turn}

-- a number is its half, once or twice, and perhaps one more
halved_once : (j times : ℕ) → j / 2 ^ suc times ≡ j / 2 ^ times / 2
halved_once j times = rw (pow-suc 2 times) (sym (div-div-eq-div-mul j (2 ^ times) 2))

-- what is below a pair and is not it is to its left or to its right
below : (i j : ℕ) → IsUnder i j → (j ≡ i) ⊎ (IsUnder (2 * i) j ⊎ IsUnder (2 * i + 1) j)
below i j u = by_times u.0 u.1
  where
    by_half : (k times : ℕ) → j / 2 ^ times ≡ k → k / 2 ≡ i → IsUnder (2 * i) j ⊎ IsUnder (2 * i + 1) j
    by_half k times e h = elim (cases_lt (k % 2) 1) [
      | inl even ↦ let same : k ≡ 2 * i = omega arith in inl (times, e ∙ same)
      | inr odd ↦ let same : k ≡ 2 * i + 1 = omega arith in inr (times, e ∙ same)
    ]

    by_times : (times : ℕ) → j / 2 ^ times ≡ i → (j ≡ i) ⊎ (IsUnder (2 * i) j ⊎ IsUnder (2 * i + 1) j)
    by_times zero e = inl (omega arith)
    by_times (suc times) e = inr (by_half (j / 2 ^ times) times refl (sym (halved_once j times) ∙ e))

no_higher : (i j : ℕ) → IsUnder i j → i ≤ j
no_higher i j u = let le = div-le_self j (2 ^ u.0) in let e = u.1 in omega arith

-- every pair is below pair 1
under_first : (bound j : ℕ) → 1 ≤ j → j ≤ bound → IsUnder 1 j
under_first zero j one le = absurd (omega arith)
under_first (suc bound) j one le =
    elim (cases_lt j 2) [
      | inl lt ↦ (0, omega arith)
      | inr more ↦ on_half (under_first bound (j / 2) (omega arith) (omega arith))
    ]
  where
    on_half : IsUnder 1 (j / 2) → IsUnder 1 j
    on_half u = (suc u.0, rw (pow-suc' u.0) (sym (div-div-eq-div-mul j 2 (2 ^ u.0)) ∙ u.1))
      where
        pow-suc' : (n : ℕ) → 2 ^ suc n ≡ 2 * 2 ^ n
        pow-suc' n = let e = pow-suc 2 n in omega arith

module _ (words : List ℕ) (r : Regs) (t count : ℕ) (keys : ℕ → ℕ) (has : HasKeys words t count keys) where
  -- a turn at a pair that is there reads its key
  turn_at : (k i : ℕ) → 1 ≤ i → i ≤ count → search_from (suc k) words r t count i ≡ compared (search_from k words r t count) words r t i (keys i)
  turn_at k i one le = turn k words r t count i le ∙ ap (λ (o : Result ℕ Fault). o >>= λ key. compared (search_from k words r t count) words r t i key) (has.each i one le)

  same_key : (go_on : ℕ → Result Change Fault) (i : ℕ) → r.a ≡ keys i → compared go_on words r t i (keys i) ≡ jump_by words r (add t (4 * i + 2))
  same_key go_on i e = grind (arith, nat_tests)

  lower_key : (go_on : ℕ → Result Change Fault) (i : ℕ) → r.a < keys i → compared go_on words r t i (keys i) ≡ go_on (2 * i)
  lower_key go_on i lt = grind (arith, nat_tests)

  higher_key : (go_on : ℕ → Result Change Fault) (i : ℕ) → keys i < r.a → compared go_on words r t i (keys i) ≡ go_on (2 * i + 1)
  higher_key go_on i lt = grind (arith, nat_tests)

  at_start : (o : Result Change Fault) → search_from count words r t count 1 ≡ o → switch_by_key words r t ≡ o
  at_start o e = ap (λ (c : Result ℕ Fault). c >>= λ n. search_from n words r t n 1) has.counted ∙ e

  found_from : (order : IsSearchOrder count keys) (j : ℕ) → j ≤ count → r.a ≡ keys j → (k i : ℕ) → 1 ≤ i → count < i + k → IsUnder i j → search_from k words r t count i ≡ jump_by words r (add t (4 * j + 2))
  found_from order j le e zero i one enough u = let higher = no_higher i j u in absurd (omega arith)
  found_from order j le e (suc k) i one enough u =
      let higher = no_higher i j u in
      let go_on : ℕ → Result Change Fault = search_from k words r t count in
      turn_at k i one (omega arith) ∙ elim (below i j u) [
        | inl same ↦ same_key go_on i (e ∙ ap keys same) ∙ ap (λ n. jump_by words r (add t (4 * n + 2))) (sym same)
        | inr under ↦ elim under [
          | inl left ↦
              let lt = order.left i j one le left in
              lower_key go_on i (omega arith) ∙ found_from order j le e k (2 * i) (omega arith) (omega arith) left
          | inr right ↦
              let lt = order.right i j one le right in
              higher_key go_on i (omega arith) ∙ found_from order j le e k (2 * i + 1) (omega arith) (omega arith) right
        ]
      ]

  pub key_found : IsSearchOrder count keys → (j : ℕ) → 1 ≤ j → j ≤ count → r.a ≡ keys j → switch_by_key words r t ≡ jump_by words r (add t (4 * j + 2))
  key_found order j one le e = at_start _ (found_from order j le e count 1 (omega arith) (omega arith) (under_first j j one (omega arith)))

  missed_from : ((i : ℕ) → 1 ≤ i → i ≤ count → r.a ≢ keys i) → (k i : ℕ) → 1 ≤ i → search_from k words r t count i ≡ jump_by words r (add t 2)
  unfolding search_from
  missed_from other zero i one = refl
  missed_from other (suc k) i one = elim (cases_lt count i) [
    | inl past ↦ past_last (suc k) words r t count i past
    | inr inside ↦ turn_at k i one inside ∙ elim (cases_lt r.a (keys i)) [
      | inl lt ↦ lower_key (search_from k words r t count) i lt ∙ missed_from other k (2 * i) (omega arith)
      | inr le ↦ let different = other i one inside in higher_key (search_from k words r t count) i (grind arith) ∙ missed_from other k (2 * i + 1) (omega arith)
    ]
  ]

  pub no_key : ((i : ℕ) → 1 ≤ i → i ≤ count → r.a ≢ keys i) → switch_by_key words r t ≡ jump_by words r (add t 2)
  no_key other = at_start _ (missed_from other count 1 (omega arith))
