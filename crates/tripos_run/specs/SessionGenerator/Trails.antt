-- The bytes of a trail.
use Rattle.std.specs.Prelude.{ℕ, List, [], ◌∷◌, ◌++◌}
use Rattle.tripos_run.specs.declared.session_generator.trails.Trail.{Trail, Start, More'}

-- the bytes, in order
abbrev pub bytes_of : Trail → List ℕ
bytes_of Start = []
bytes_of (More' marker before byte) = bytes_of before ++ byte ∷ []
