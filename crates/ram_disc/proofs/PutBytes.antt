-- Bytes that are put over others.
use Rattle.std.proofs.Common.{◌≡◌, ℕ, ◌+◌, ◌-◌, ◌<◌, ◌≤◌, List, ◌++◌, length, get_or, take, drop, inl, inr, refl, sym, ap, ◌∙◌, arith, take-add}
use Rattle.std.proofs.lemmas.Bool.{cases_lt}
use Rattle.std.proofs.lemmas.List.{append_assoc, drop-drop, get_or-append_right, get_or-drop, get_or-take, get_or_append_left, length-append, length-drop, length-take-le, take_at}
use Rattle.ram_disc.specs.Contents.{with_piece}

module _ (xs : List ℕ) (at : ℕ) (ys : List ℕ) (fits : at + length ys ≤ length xs) where
  abbrev behind : List ℕ
  behind = drop (at + length ys) xs

  front-size : length (take at xs) ≡ at
  front-size = length-take-le at xs (omega (arith, fits))

  pub length-with_piece : length (with_piece xs at ys) ≡ length xs
  length-with_piece =
      omega (arith, fits, front-size, length-append (take at xs) (ys ++ behind), length-append ys behind, length-drop (at + length ys) xs)

  -- the front, and the bytes behind it
  pub take-with_piece : take (at + length ys) (with_piece xs at ys) ≡ take at xs ++ ys
  take-with_piece =
      ap (take (at + length ys)) (sym (append_assoc (take at xs) ys behind))
      ∙ take_at (take at xs ++ ys) behind (at + length ys) (omega (arith, front-size, length-append (take at xs) ys))

  pub get_or-with_piece : (k : ℕ) → k < length ys → get_or (with_piece xs at ys) (at + k) 0 ≡ get_or ys k 0
  get_or-with_piece k low =
      let place : at + k - at ≡ k = omega arith in
      get_or-append_right (take at xs) (ys ++ behind) at (at + k) 0 front-size (omega arith)
      ∙ ap (λ i. get_or (ys ++ behind) i 0) place ∙ get_or_append_left ys behind 0 k low

  below : (q : ℕ) → q < at → get_or (with_piece xs at ys) q 0 ≡ get_or xs q 0
  below q low = get_or_append_left (take at xs) (ys ++ behind) 0 q (omega (arith, low, front-size)) ∙ get_or-take at xs q 0 low

  above : (q : ℕ) → at + length ys ≤ q → get_or (with_piece xs at ys) q 0 ≡ get_or xs q 0
  above q high =
      let place : at + length ys + (q - at - length ys) ≡ q = omega (arith, high) in
      get_or-append_right (take at xs) (ys ++ behind) at q 0 front-size (omega (arith, high))
      ∙ get_or-append_right ys behind (length ys) (q - at) 0 refl (omega (arith, high))
      ∙ get_or-drop (at + length ys) xs (q - at - length ys) 0 ∙ ap (λ i. get_or xs i 0) place

  -- a byte at another place
  pub get_or-with_piece_other : (q : ℕ) → ((k : ℕ) → k < length ys → q ≡ at + k → ⊥) → get_or (with_piece xs at ys) q 0 ≡ get_or xs q 0
  get_or-with_piece_other q ne =
      elim (cases_lt q at) [
        | inl low ↦ below q low
        | inr from ↦
            elim (cases_lt q (at + length ys)) [
              | inl to ↦ absurd (ne (q - at) (omega (arith, from, to)) (omega (arith, from)))
              | inr high ↦ above q high
            ]
      ]

-- the front that was read, and one piece more
pub read-more : (into all ys : List ℕ) (p done : ℕ) → done + length ys ≤ length into → take done into ≡ take done (drop p all) → ys ≡ take (length ys) (drop (p + done) all)
    → take (done + length ys) (with_piece into done ys) ≡ take (done + length ys) (drop p all)
read-more into all ys p done fits before piece =
    take-with_piece into done ys fits ∙ ap (λ front. front ++ ys) before
    ∙ ap (λ more. take done (drop p all) ++ more) (piece ∙ ap (take (length ys)) (sym (drop-drop done p all)))
    ∙ sym (take-add done (length ys) (drop p all))
