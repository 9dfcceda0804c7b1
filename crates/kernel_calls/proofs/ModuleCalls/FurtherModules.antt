-- The modules of a guest after the first, one word after the other.
use Rattle.std.proofs.Common.{◌≡◌, ◌≢◌, ℕ, suc, ◌+◌, ◌<◌, ◌≤◌, List, ◌∷◌, length, get_or, cond, eqb, not, ◌||◌, Bool, true, false, refl, sym, ap, ◌∙◌, arith}
use Rattle.std.specs.Prelude.{filter, slice_range}
use Rattle.std.proofs.lemmas.Bool.{eq-eqb, ne_eqb}
use Rattle.kernel_lists.specs.LinkedList.Places.{has}
use Rattle.kernel_lists.specs.TaskBlock.Versions.{head_words, module_index, most_modules}
use Rattle.word_store.proofs.Rows.{range_first, range_none}
use Rattle.kernel_lists.proofs.TaskBlock.HeadWords.{most-heads}

module _ (s : List ℕ) (t m i most : ℕ) (fits : t + head_words s ≤ length s) (is : most ≡ most_modules s) (low : 2 ≤ i) where
  abbrev end : ℕ
  end = t + head_words s

  pub range-next : i < most + 1 → slice_range s (t + (21 + i)) end ≡ get_or s (t + (21 + i)) 0 ∷ slice_range s (t + (21 + (i + 1))) end
  range-next high =
      let next : t + (21 + i) + 1 ≡ t + (21 + (i + 1)) = omega arith in
      range_first s (t + (21 + i)) end (omega (arith, high, is, most-heads s)) fits ∙ ap (λ a. get_or s (t + (21 + i)) 0 ∷ slice_range s a end) next

  first : i < most + 1 → has m (slice_range s (t + (21 + i)) end) ≡ (eqb m (get_or s (t + (21 + i)) 0) || has m (slice_range s (t + (21 + (i + 1))) end))
  first high = ap (has m) (range-next high)

  -- the word of the i-th module
  pub word-is : (w : ℕ) → w ≡ get_or s (t + module_index i) 0 → get_or s (t + (21 + i)) 0 ≡ w
  word-is w e = ap (λ b. get_or s (t + cond b 10 (21 + i)) 0) (sym (ne_eqb i 1 (λ one. absurd (omega (arith, one, low))))) ∙ sym e

  pub further-here : (w : ℕ) → i < most + 1 → w ≡ get_or s (t + module_index i) 0 → w ≡ m → true ≡ has m (slice_range s (t + (21 + i)) end)
  further-here w high e same =
      sym (first high ∙ ap (λ b. b || has m (slice_range s (t + (21 + (i + 1))) end)) (eq-eqb m (get_or s (t + (21 + i)) 0) (sym (word-is w e ∙ same))))

  pub further-next : (w : ℕ) → i < most + 1 → w ≡ get_or s (t + module_index i) 0 → w ≢ m → has m (slice_range s (t + (21 + i)) end) ≡ has m (slice_range s (t + (21 + (i + 1))) end)
  further-next w high e other =
      first high ∙ ap (λ b. b || has m (slice_range s (t + (21 + (i + 1))) end)) (ne_eqb m (get_or s (t + (21 + i)) 0) (λ same. other (sym (word-is w e) ∙ sym same)))

-- ---- how many there are

abbrev some_module : ℕ → Bool
some_module w = not (eqb w 0)

-- those from the i-th on
abbrev pub count_from : List ℕ → ℕ → ℕ → ℕ
count_from s t i = length (filter some_module (slice_range s (t + (21 + i)) (t + head_words s)))

module _ (s : List ℕ) (t i most : ℕ) (fits : t + head_words s ≤ length s) (is : most ≡ most_modules s) (low : 2 ≤ i) (high : i < most + 1) (w : ℕ) (word : w ≡ get_or s (t + module_index i) 0) where
  counted : (b : Bool) → eqb w 0 ≡ b → count_from s t i ≡ cond (not b) (suc (count_from s t (i + 1))) (count_from s t (i + 1))
  counted b e =
      let rest : List ℕ = slice_range s (t + (21 + (i + 1))) (t + head_words s) in
      ap (λ ws. length (filter some_module ws)) (range-next s t 0 i most fits is low high ∙ ap (λ v. v ∷ rest) (word-is s t 0 i most fits is low w word)) ∙ on b e
    where
      rest : List ℕ
      rest = slice_range s (t + (21 + (i + 1))) (t + head_words s)

      on : (b : Bool) → eqb w 0 ≡ b → length (filter some_module (w ∷ rest)) ≡ cond (not b) (suc (length (filter some_module rest))) (length (filter some_module rest))
      on true e = ap (λ b. length (cond (not b) (w ∷ filter some_module rest) (filter some_module rest))) e
      on false e = ap (λ b. length (cond (not b) (w ∷ filter some_module rest) (filter some_module rest))) e

  pub count-none : w ≡ 0 → count_from s t i ≡ count_from s t (i + 1)
  count-none e = counted true (eq-eqb w 0 e)

  pub count-one : w ≢ 0 → count_from s t i ≡ suc (count_from s t (i + 1))
  count-one e = counted false (ne_eqb w 0 e)

-- none is left behind the last
pub count-end : (s : List ℕ) (t i most : ℕ) → most ≡ most_modules s → i ≡ most + 1 → count_from s t i ≡ 0
count-end s t i most is e =
    let end : t + (21 + i) ≡ t + head_words s = omega (arith, e, is, most-heads s) in
    ap (λ a. length (filter some_module (slice_range s a (t + head_words s)))) end ∙ ap (λ ws. length (filter some_module ws)) (range_none s (t + head_words s))

pub most-some : (s : List ℕ) → 1 ≤ most_modules s
most-some s = elim (eqb (get_or s 111 0) 2) as (λ b. 1 ≤ cond b 8 1) [ true ↦ omega arith | false ↦ omega arith ]
