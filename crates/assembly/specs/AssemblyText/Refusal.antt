-- Where and why a text is refused.
use Rattle.std.specs.Prelude.{ℕ, Result, Ok, Err}
use Rattle.module_text.specs.TextReader.Refusal.{Refusal, refusal}
use Rattle.assembly.specs.AssemblyText.LineErrors.{code_of}
use Rattle.assembly.specs.declared.assembly_text.errors.LineError.{LineError}

-- a step that was made for line n
abbrev pub at_line : {A : Type 0} → ℕ → Result A LineError → Result A Refusal
at_line n (Ok x) = Ok x
at_line n (Err e) = Err (refusal n (code_of e))
