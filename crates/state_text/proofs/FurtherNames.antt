-- The names of a guest's modules after the first, one word after the other.
use Rattle.std.proofs.Common.{◌≡◌, ◌∙◌, ℕ, suc, ◌+◌, ◌-◌, ◌<◌, ◌≤◌, ◌==◌, Bool, true, false, Bor, Option, Some, None, List, [], ◌∷◌, length, get_or, drop, take, cond, filter, inl, inr, is_some, not, refl, sym, ap, arith}
use Rattle.std.specs.Prelude.{slice_range}
use Rattle.std.specs.Option.{option_copied, option_or}
use Rattle.std.proofs.Math.Seq.{take-nil}
use Rattle.std.proofs.lemmas.Bool.{cases_lt, false≢true, ne_eqb}
use Rattle.std.proofs.lemmas.List.{drop_all, drop_more, get_or_past}
use Rattle.kernel_lists.specs.TaskBlock.Versions.{head_words, module_index, most_modules}
use Rattle.state_text.specs.ProgramNames.{first_name}
use Rattle.kernel_lists.proofs.TaskBlock.HeadWords.{most-heads}

-- the words that are not 0
abbrev pub modules_among : List ℕ → List ℕ
modules_among ws = filter (λ m. not (m == 0)) ws

-- no module is at 0
abbrev pub name_unless_0 : (ℕ → Option (List ℕ)) → ℕ → Option (List ℕ)
name_unless_0 name_at m = cond (m == 0) None (name_at m)

or-some : (o r : Option (List ℕ)) → is_some o ≡ true → o ≡ option_or o r
or-some (Some name) r some = refl
or-some None r some = absurd (false≢true some)

or-none : (o r : Option (List ℕ)) → is_some o ≡ false → option_or o r ≡ r
or-none (Some name) r none = absurd (false≢true (sym none))
or-none None r none = refl

-- a reference is there or not, as what it leads to
pub some-copied : {X : Type 0} (r : Option (Bor X)) → is_some (option_copied r) ≡ is_some r
some-copied (Some x) = refl
some-copied None = refl

none-past : (s : List ℕ) (a b : ℕ) → length s ≤ a → slice_range s a b ≡ []
none-past s a b past = ap (take (b - a)) (drop_all a s past) ∙ take-nil (b - a)

module _ (name_at : ℕ → Option (List ℕ)) where
  -- a word and those after it
  pub name-cons : (m : ℕ) (ms : List ℕ) → first_name name_at (modules_among (m ∷ ms)) ≡ option_or (name_unless_0 name_at m) (first_name name_at (modules_among ms))
  name-cons m ms = on (m == 0)
    where
      on : (b : Bool) → first_name name_at (cond (not b) (m ∷ modules_among ms) (modules_among ms)) ≡ option_or (cond b None (name_at m)) (first_name name_at (modules_among ms))
      on true = refl
      on false = refl

  -- those from a on, also where they pass the end of the store, behind which each word reads as 0
  name-range : (s : List ℕ) (a b : ℕ) → a < b
      → first_name name_at (modules_among (slice_range s a b)) ≡ option_or (name_unless_0 name_at (get_or s a 0)) (first_name name_at (modules_among (slice_range s (a + 1) b)))
  name-range s a b more = elim (cases_lt a (length s)) [
    | inl inside ↦
        (let n : b - a ≡ suc (b - (a + 1)) = omega (arith, more) in
        let split : slice_range s a b ≡ get_or s a 0 ∷ slice_range s (a + 1) b = rw (n, drop_more s a 0 inside) refl in
        ap (λ ws. first_name name_at (modules_among ws)) split ∙ name-cons (get_or s a 0) (slice_range s (a + 1) b))
    | inr past ↦ rw (get_or_past s a 0 past, none-past s a b past, none-past s (a + 1) b (omega (arith, past))) refl
  ]

module _ (name_at : ℕ → Option (List ℕ)) (s : List ℕ) (t i most : ℕ) (is : most ≡ most_modules s) (low : 2 ≤ i) where
  abbrev end : ℕ
  end = t + head_words s

  abbrev rest : ℕ → Option (List ℕ)
  rest j = first_name name_at (modules_among (slice_range s (t + (21 + j)) end))

  -- the word of the i-th module
  word-is : (w : ℕ) → w ≡ get_or s (t + module_index i) 0 → get_or s (t + (21 + i)) 0 ≡ w
  word-is w e = ap (λ b. get_or s (t + cond b 10 (21 + i)) 0) (sym (ne_eqb i 1 (λ one. absurd (omega (arith, one, low))))) ∙ sym e

  from-word : (w : ℕ) → i < most + 1 → w ≡ get_or s (t + module_index i) 0 → rest i ≡ option_or (name_unless_0 name_at w) (rest (i + 1))
  from-word w high e =
      let next : t + (21 + i) + 1 ≡ t + (21 + (i + 1)) = omega arith in
      name-range name_at s (t + (21 + i)) end (omega (arith, high, is, most-heads s))
      ∙ (λ k. option_or (name_unless_0 name_at (word-is w e k)) (first_name name_at (modules_among (slice_range s (next k) end))))

  pub further-here : (w : ℕ) (o : Option (List ℕ)) → i < most + 1 → w ≡ get_or s (t + module_index i) 0 → o ≡ name_unless_0 name_at w → is_some o ≡ true
      → o ≡ first_name name_at (modules_among (slice_range s (t + (21 + i)) (t + head_words s)))
  further-here w o high e named some = or-some o (rest (i + 1)) some ∙ (ap (λ p. option_or p (rest (i + 1))) named ∙ sym (from-word w high e))

  pub further-next : (w : ℕ) (o : Option (List ℕ)) → i < most + 1 → w ≡ get_or s (t + module_index i) 0 → o ≡ name_unless_0 name_at w → is_some o ≡ false
      → first_name name_at (modules_among (slice_range s (t + (21 + i)) (t + head_words s))) ≡ first_name name_at (modules_among (slice_range s (t + (21 + (i + 1))) (t + head_words s)))
  further-next w o high e named none = from-word w high e ∙ (ap (λ p. option_or p (rest (i + 1))) (sym named) ∙ or-none o (rest (i + 1)) none)

  pub further-end : most + 1 ≤ i → None ≡ first_name name_at (modules_among (slice_range s (t + (21 + i)) (t + head_words s)))
  further-end past =
      let none : t + head_words s - (t + (21 + i)) ≡ 0 = omega (arith, past, is, most-heads s) in
      sym (ap (λ n. first_name name_at (modules_among (take n (drop (t + (21 + i)) s)))) none)
