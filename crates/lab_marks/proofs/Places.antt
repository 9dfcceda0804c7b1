-- Where a search ends.
use Rattle.std.proofs.Common.{◌≡◌, Bool, not, List, length, arith}
use Rattle.std.specs.Option.{unwrap_or}
use Rattle.std.specs.List.{position, position_or_len}
use Rattle.std.proofs.lemmas.Bool.Decides.{nat_tests}
use Rattle.std.proofs.lemmas.List.Sums.{prefix_len-le-length}

-- the place that a search found, or else the length
pub position-or_length : {X : Type 0} (p : X → Bool) (xs : List X) → unwrap_or (position p xs) (length xs) ≡ position_or_len p xs
position-or_length p xs = let le = prefix_len-le-length (λ x. not (p x)) xs in grind (arith, nat_tests)

pub ruleset places = (position-or_length, prefix_len-le-length)
