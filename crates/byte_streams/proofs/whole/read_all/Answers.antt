use Rattle.std.proofs.Common.{ℕ, ◌+◌, ◌≤◌, List, ◌++◌, Option, length, length-append, length-take, take, arith}
use Rattle.std.specs.Io.KnownBytes.{Consumes}
use Rattle.std.proofs.KnownBytes.{Consumes-trans}
use Rattle.byte_streams.proofs.whole.read_all.Goals as goal

-- one more piece of n bytes, for which a bound has room
Consumes-more : (h m k : Option (List ℕ)) (a piece : List ℕ) (n bound : ℕ) → Consumes h m a → Consumes m k (take n piece) → length a + n ≤ bound → (bytes : List ℕ) × (length bytes ≤ bound) × Consumes h k bytes
Consumes-more h m k a piece n bound p q fits =
    (a ++ take n piece, omega (arith, length-append a (take n piece), length-take n piece), Consumes-trans h m k a (take n piece) p q)

pub returns-then-is_err-clause-given : goal.returns-then-is_err-clause-given
returns-then-is_err-clause-given g c =
    let fits : c.in-Got.n ≤ length c.read.new.into = omega (arith, c.in-Got.ensures.bytes) in
    Consumes-more _ _ _ _ _ _ _ c.loop-chunk.invariant.taken c.in-Got.ensures.bytes.2
    (omega (arith, fits, c.loop-chunk.bytes.ok, c.min-room.ensures, length-take (c.min-room.result + 1) c.loop-chunk.chunk))
