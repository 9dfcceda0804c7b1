-- The search for an instruction that takes a number.
use Rattle.std.proofs.Common.{◌≡◌, ℕ, suc, ◌+◌, ◌-◌, ◌<◌, ◌≤◌, Some, None, List, refl, arith}
use Rattle.std.specs.Option.{option_map_or}
use Rattle.assembly_errors.specs.NameWords.{wider_at, wider_from}

-- the search goes on at the next byte
pub wider_from_here : (family : List ℕ) (part : List ℕ) (byte : ℕ) → byte < 256
    → wider_from family part byte (256 - byte) ≡ option_map_or Some (wider_at family part byte) (wider_from family part (byte + 1) (256 - (byte + 1)))
unfolding wider_from
wider_from_here family part byte h =
    let e : 256 - byte ≡ suc (256 - (byte + 1)) = omega arith in rw e refl

-- and it ends after the last
pub wider_from_end : (family : List ℕ) (part : List ℕ) (byte : ℕ) → 256 ≤ byte → wider_from family part byte (256 - byte) ≡ None
unfolding wider_from
wider_from_end family part byte h = let e : 256 - byte ≡ 0 = omega arith in rw e refl
