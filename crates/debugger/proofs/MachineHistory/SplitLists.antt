-- A list, parted at one of its members.
use Rattle.std.proofs.Common.{◌≡◌, ℕ, zero, suc, ◌<◌, Some, List, [], ◌∷◌, ◌++◌, length, take, drop, refl, ap, arith}
use Rattle.std.specs.Prelude.{slice_get}

pub record IsSplit {X : Type 0} (k : ℕ) (xs : List X) : Type 0 where
  pub member : X
  pub is : xs ≡ take k xs ++ member ∷ drop (suc k) xs
  pub got : slice_get xs k ≡ Some member

pub is-split : {X : Type 0} (k : ℕ) (xs : List X) → k < length xs → IsSplit k xs
is-split k [] few = absurd (omega (arith, few))
is-split zero (x ∷ xs) few = record { member = x; is = refl; got = refl }
is-split (suc k) (x ∷ xs) few =
    let rest = is-split k xs (omega (arith, few)) in
    record { member = rest.member; is = ap (λ l. x ∷ l) rest.is; got = rest.got }
