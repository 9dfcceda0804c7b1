-- The lines of a text, and lines that are joined.
use Rattle.std.proofs.Common.{◌≡◌, ℕ, ◌+◌, ◌<◌, ◌≤◌, ◌==◌, false, Some, None, List, [], ◌∷◌, ◌++◌, length, take, drop, map, refl, sym, ap, arith}
use Rattle.std.specs.List.{flat_map, join_with_byte, position, position_or_len}
use Rattle.std.proofs.lemmas.Bool.Decides.{nat_tests}
use Rattle.std.proofs.lemmas.List.Elements.{All-from_get_or}
use Rattle.std.proofs.lemmas.List.Splits.{slice_split_first, slice_split_none}
use Rattle.std.proofs.lemmas.List.Sums.{fails_before_first}
use Rattle.friendly_assembly.specs.PlainText.{lines_of}

-- the first line of a text that has a LF
pub first_line : (text : List ℕ) (i : ℕ) → Some i ≡ position (λ c. c == 10) text → i < length text
    → lines_of text ≡ take i text ∷ lines_of (drop (i + 1) text)
first_line text i e inside =
    let here : position_or_len (λ c. c == 10) text ≡ i = grind (arith, nat_tests) in
    let some : position_or_len (λ c. c == 10) text < length text = rw here inside in
    let parts = slice_split_first (λ c. c == 10) text 0 some in
    rw here at parts

-- the only line of a text that has none
pub last_line : (text : List ℕ) → None ≡ position (λ c. c == 10) text → lines_of text ≡ text ∷ []
last_line text e =
    let all : length text ≤ position_or_len (λ c. c == 10) text = grind (arith, nat_tests) in
    slice_split_none (λ c. c == 10) text (All-from_get_or (λ c. (c == 10) ≡ false) text 0 (λ k lt. fails_before_first (λ c. c == 10) text k 0 (omega arith)))

-- lines that are joined, by the first one and the others
pub joined_lines : (f : List ℕ → List ℕ) (first : List ℕ) (others : List (List ℕ))
    → join_with_byte 10 (map f (first ∷ others)) ≡ f first ++ flat_map (λ line. 10 ∷ f line) others
joined_lines f first [] = sym (no_more (f first))
  where
    no_more : (xs : List ℕ) → xs ++ [] ≡ xs
    no_more [] = refl
    no_more (x ∷ xs) = ap (λ rest. x ∷ rest) (no_more xs)
joined_lines f first (second ∷ others) = ap (λ rest. f first ++ 10 ∷ rest) (joined_lines f second others)
