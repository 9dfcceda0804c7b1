-- The answer that says what a tool gives.
use Rattle.std.specs.Prelude.{◌≡◌, Option, Some, None, if◌then◌else◌}
use Rattle.program_answers.specs.Answer.{Answer}
use Rattle.program_answers.specs.declared.status.Status.TheVariants.{Done, Refused}
use Rattle.tool_texts.specs.Told.{Told}

-- the text is refused where something is wrong in it, and the bytes say what
abbrev pub told_answer : Told → Answer
told_answer t = record { status = if t.is_wrong then Refused else Done; bytes = t.bytes }

-- An answer says what a tool gives: that of its definition, where it has one. What others give is not said: they end, and their answer is whole.
abbrev pub IsToldBy : Option Told → Answer → Type 0
IsToldBy (Some t) a = a ≡ told_answer t
IsToldBy None a = (t : Told) × a ≡ told_answer t
