-- Texts whose writing fails part by part.
use Rattle.std.proofs.Common.{◌≡◌, ℕ, List, ◌++◌, Option, Result, Ok, Err}
use Rattle.std.specs.Io.KnownBytes.{Appends}
use Rattle.byte_streams.specs.Write.{AppendsPrefix, Prints}
use Rattle.byte_streams.proofs.AppendedTexts.{AppendsPrefix-more, AppendsPrefix-then}

-- a text whose writing fails, before one that is not written
pub Prints-first : {T E : Type 0} (h k : Option (List ℕ)) (a rest : List ℕ) (r : Result T E) (e : E)
    → r ≡ Err e → AppendsPrefix h k a → Prints h k (a ++ rest) r
Prints-first h k a rest (Ok x) e f p = absurd (cc f)
Prints-first h k a rest (Err d) e f p = AppendsPrefix-more h k a rest p

-- the same, after one that is written
pub Prints-cut : {T E : Type 0} (h m k : Option (List ℕ)) (a b rest : List ℕ) (r : Result T E) (e : E)
    → r ≡ Err e → Appends h m a → AppendsPrefix m k b → Prints h k (a ++ (b ++ rest)) r
Prints-cut h m k a b rest (Ok x) e f p q = absurd (cc f)
Prints-cut h m k a b rest (Err d) e f p q = AppendsPrefix-then h m k a (b ++ rest) p (AppendsPrefix-more m k b rest q)
