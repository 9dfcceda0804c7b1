-- Counted addresses.
use Rattle.std.proofs.Common.{◌≡◌, ◌≢◌, ℕ, zero, suc, ◌+◌, ◌<◌, ◌≤◌, List, [], ◌∷◌, ◌++◌, refl, ap, ◌∙◌, subst, arith, inl, inr}
use Rattle.std.specs.List.{range_with_len}
use Rattle.std.proofs.lemmas.Grind.{flat_map-append}
use Rattle.std.proofs.lemmas.Bool.{cases_eq, cases_lt}
use Rattle.std.proofs.lemmas.Bool.Decides.{nat_tests}
use Rattle.word_store.specs.Count.{IsApart, hit, node_words, times, words_of}

pub hit-same : (a b : ℕ) → a ≡ b → hit a b ≡ 1
hit-same a b e = grind (arith, nat_tests)

pub hit-other : (a b : ℕ) → a ≢ b → hit a b ≡ 0
hit-other a b e = grind (arith, nat_tests)

pub hit-le : (a b : ℕ) → hit a b ≤ 1
hit-le a b = grind (arith, nat_tests)

pub times-append : (a : ℕ) (xs ys : List ℕ) → times a (xs ++ ys) ≡ times a xs + times a ys
times-append a [] ys = omega arith
times-append a (x ∷ xs) ys = omega (arith, times-append a xs ys)

-- an address that is in a list, and one that is not, differ
pub times-differ : (a b : ℕ) (xs : List ℕ) → 0 < times a xs → times b xs ≡ 0 → a ≢ b
times-differ a b xs some none e = absurd (omega (arith, subst (λ z. 0 < times z xs) e some))

pub IsApart-cons : (x : ℕ) (xs : List ℕ) → times x xs ≡ 0 → IsApart xs → IsApart (x ∷ xs)
IsApart-cons x xs none apart a =
    elim (cases_eq a x) [
      | inl e ↦ (let z : times a xs ≡ 0 = ap (λ b. times b xs) e ∙ none in omega (arith, z, hit-le a x))
      | inr ne ↦ omega (arith, hit-other a x ne, apart a)
    ]

-- a range of addresses
pub times-below : (a p n : ℕ) → a < p → times a (range_with_len p n) ≡ 0
times-below a p zero h = refl
times-below a p (suc n) h = omega (arith, hit-other a p (λ e. absurd (omega arith)), times-below a (p + 1) n (omega arith))

pub times-above : (a p n : ℕ) → p + n ≤ a → times a (range_with_len p n) ≡ 0
times-above a p zero h = refl
times-above a p (suc n) h = omega (arith, hit-other a p (λ e. absurd (omega arith)), times-above a (p + 1) n (omega arith))

pub times-within : (a p n : ℕ) → p ≤ a → a < p + n → times a (range_with_len p n) ≡ 1
times-within a p zero h k = absurd (omega arith)
times-within a p (suc n) h k =
    elim (cases_eq a p) [
      | inl e ↦ omega (arith, hit-same a p e, times-below a (p + 1) n (omega arith))
      | inr ne ↦ omega (arith, hit-other a p ne, times-within a (p + 1) n (omega arith) (omega arith))
    ]

-- an address of a range lies in it
pub range-low : (a p n : ℕ) → 0 < times a (range_with_len p n) → p ≤ a
range-low a p n some = elim (cases_lt a p) [ inl low ↦ absurd (omega (arith, some, times-below a p n low)) | inr h ↦ omega arith ]

pub range-high : (a p n : ℕ) → 0 < times a (range_with_len p n) → a < p + n
range-high a p n some = elim (cases_lt a (p + n)) [ inl h ↦ h | inr high ↦ absurd (omega (arith, some, times-above a p n (omega arith))) ]

pub range-apart : (p n : ℕ) → IsApart (range_with_len p n)
range-apart p n a =
    elim (cases_lt a p) [
      | inl low ↦ omega (arith, times-below a p n low)
      | inr h ↦ elim (cases_lt a (p + n)) [ inl k ↦ omega (arith, times-within a p n (omega arith) k) | inr high ↦ omega (arith, times-above a p n (omega arith)) ]
    ]

-- the words of nodes that are joined
pub times-words_of : (size : ℕ → ℕ) (a : ℕ) (xs ys : List ℕ) → times a (words_of size (xs ++ ys)) ≡ times a (words_of size xs) + times a (words_of size ys)
times-words_of size a xs ys = ap (times a) (flat_map-append (node_words size) xs ys) ∙ times-append a (words_of size xs) (words_of size ys)

pub times-words_more : (size : ℕ → ℕ) (a p : ℕ) (ps : List ℕ) → times a (words_of size (p ∷ ps)) ≡ times a (node_words size p) + times a (words_of size ps)
times-words_more size a p ps = times-append a (node_words size p) (words_of size ps)
