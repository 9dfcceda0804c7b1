-- The bytes that are typed ahead.
use Rattle.std.specs.Prelude.{◌≡◌, ◌≤◌, ℕ, if◌then◌else◌, nat_lt, List, [], ◌∷◌, ◌++◌, length}
use Rattle.circular_buffer.specs.Buffer.{Buffer}

-- a ring of room for 128
pub record IsTypeAhead (ring : Buffer ℕ) : Type 0 where
  -- there is room for 128 bytes
  pub room : ring.capacity ≡ 128
  -- there are no more
  pub most : length ring.items ≤ 128

-- a byte comes last, where there is room, and else it is dropped
abbrev pub with_typed : ℕ → List ℕ → List ℕ
with_typed byte bytes = if nat_lt (length bytes) 128 then bytes ++ byte ∷ [] else bytes
