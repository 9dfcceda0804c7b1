-- What is known of all elements of a list, one by one.
use Rattle.std.proofs.Common.{◌≡◌, ℕ, zero, suc, ◌<◌, None, List, [], ◌∷◌, arith}
use Rattle.std.specs.Prelude.{slice_get, slice_index}

-- behind the end of a text nothing is out of range
pub no-byte-at : (text : List ℕ) (i : ℕ) → None ≡ slice_get text i → slice_index text i < 256
no-byte-at [] i is = omega arith
no-byte-at (c ∷ text) zero is = cc
no-byte-at (c ∷ text) (suc i) is = no-byte-at text i is
