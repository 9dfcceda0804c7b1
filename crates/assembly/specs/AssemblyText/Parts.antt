-- The parts of a line.
use Rattle.std.specs.Prelude.{ℕ, ◌==◌, List, length, filter, nat_lt}
use Rattle.std.specs.List.{before_first, slice_split}

-- what comes before the comment, which begins with a semicolon
abbrev pub without_comment : List ℕ → List ℕ
without_comment line = before_first (λ c. c == 59) line

-- The parts are between spaces. Several spaces part as one does.
unfoldable pub parts_of : List ℕ → List (List ℕ)
parts_of line = filter (λ part. nat_lt 0 (length part)) (slice_split (λ c. c == 32) line)
