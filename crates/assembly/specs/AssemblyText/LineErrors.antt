-- The codes of refused lines.
use Rattle.std.specs.Prelude.{ℕ}
use Rattle.assembly.specs.declared.assembly_text.errors.LineError.{LineError}
use Rattle.assembly.specs.declared.assembly_text.errors.LineError.TheVariants.{NoForm, UnknownName, OutOfRange, UndefinedLabel, RepeatedLabel, OutOfReach, HunkTooLong}

-- the code that the user reads, of each reason for which a line is refused
abbrev pub code_of : LineError → ℕ
code_of NoForm = 1
code_of UnknownName = 2
code_of OutOfRange = 3
code_of UndefinedLabel = 4
code_of RepeatedLabel = 5
code_of OutOfReach = 6
code_of HunkTooLong = 7
