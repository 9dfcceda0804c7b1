-- How often ranges have an address, as counts that add up.
use Rattle.std.proofs.Common.{◌≡◌, ℕ, ◌+◌, ◌<◌, ◌≤◌, ◌||◌, Bool, true, false, List, [], ◌∷◌, ◌++◌, refl, ap, arith, inl, inr}
use Rattle.std.proofs.lemmas.Bool.{cases_lt, false≢true}
use Rattle.std.proofs.lemmas.Bool.Decides.{nat_tests}
use Rattle.std.specs.List.{list_any, range_with_len}
use Rattle.word_store.specs.Count.{times}
use Rattle.word_store.proofs.Counts.{range-high, range-low, times-within}
use Rattle.kernel_model.specs.KernelRecord.KernelRanges.{Words, meets}

-- how many of the ranges have the address
abbrev pub hits : ℕ → List Words → ℕ
hits a [] = 0
hits a (w ∷ ws) = times a (range_with_len w.first w.count) + hits a ws

pub hits-append : (a : ℕ) (xs ys : List Words) → hits a (xs ++ ys) ≡ hits a xs + hits a ys
hits-append a [] ys = omega arith
hits-append a (x ∷ xs) ys = omega (arith, hits-append a xs ys)

-- ---- one of them meets the address

meets-true : (a : ℕ) (w : Words) → w.first ≤ a → a < w.first + w.count → meets a (a + 1) w ≡ true
meets-true a w low high = grind (arith, nat_tests, low, high)

meets-low : (a : ℕ) (w : Words) → meets a (a + 1) w ≡ true → w.first ≤ a
meets-low a w m = grind (arith, nat_tests, m)

meets-high : (a : ℕ) (w : Words) → meets a (a + 1) w ≡ true → a < w.first + w.count
meets-high a w m = grind (arith, nat_tests, m)

-- one of two tests holds
pub either : (x y : Bool) (P : Type 0) → (x || y) ≡ true → (x ≡ true → P) → (y ≡ true → P) → P
either true y P e left right = left refl
either false y P e left right = right e

pub found-hits : (a : ℕ) (ws : List Words) → list_any (meets a (a + 1)) ws ≡ true → 0 < hits a ws
found-hits a [] f = absurd (false≢true f)
found-hits a (w ∷ ws) f =
    either (meets a (a + 1) w) (list_any (meets a (a + 1)) ws) (0 < hits a (w ∷ ws)) f
    (λ m. omega (arith, times-within a w.first w.count (meets-low a w m) (meets-high a w m)))
    (λ m. omega (arith, found-hits a ws m))

pub hits-found : (a : ℕ) (ws : List Words) → 0 < hits a ws → list_any (meets a (a + 1)) ws ≡ true
hits-found a [] h = absurd (omega (arith, h))
hits-found a (w ∷ ws) h =
    elim (cases_lt 0 (times a (range_with_len w.first w.count))) [
      | inl some ↦ ap (λ z. z || list_any (meets a (a + 1)) ws) (meets-true a w (range-low a w.first w.count some) (range-high a w.first w.count some))
      | inr none ↦ second (meets a (a + 1) w) (list_any (meets a (a + 1)) ws) (hits-found a ws (omega (arith, h, none)))
    ]
  where
    second : (x y : Bool) → y ≡ true → (x || y) ≡ true
    second true y e = refl
    second false y e = e
