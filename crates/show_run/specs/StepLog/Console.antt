-- The bytes that a step writes to the console.
use Rattle.std.specs.Prelude.{ℕ, ◌==◌, ◌&&◌, if◌then◌else◌, List, [], ◌∷◌, ◌++◌, codes, nat_le}
use Rattle.std.specs.List.{flat_map}
use Rattle.hex.specs.Hex.{encode_lower}
use Rattle.show_run.specs.declared.step_log.moments.Moment.{Moment}
use Rattle.show_run.specs.StepLog.Moments.{start}

-- A byte as it is shown between quotes: a line's end, a quote and a backslash behind a backslash; what else can't be printed as two hex
-- digits.
unfoldable pub shown : ℕ → List ℕ
shown b =
    if b == 10 then codes "\\n" else
    if b == 34 then codes "\\\"" else
    if b == 92 then codes "\\\\" else
    if nat_le 32 b && nat_le b 126 then b ∷ [] else
    codes "\\x" ++ encode_lower (b ∷ [])

-- no line where nothing was written
abbrev pub console_lines : Moment → List ℕ → List ℕ
console_lines m [] = []
console_lines m (b ∷ bs) = start m (codes "console \"") ++ (flat_map shown (b ∷ bs) ++ codes "\"\n")
