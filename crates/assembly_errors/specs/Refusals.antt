-- Where and why the assembler refuses a text, by the lines in error.
use Rattle.std.specs.Prelude.{List, [], ◌∷◌, Option, Some, None}
use Rattle.module_text.specs.TextReader.Refusal.{Refusal, refusal}
use Rattle.assembly.specs.AssemblyText.LineErrors.{code_of}
use Rattle.assembly_errors.specs.declared.drafts.Finding.{Finding}

-- the number of a line in error, and its code
abbrev pub refusal_of : Finding → Refusal
refusal_of f = refusal f.number (code_of f.error)

-- the number and the code of the first line in error, if there is one
abbrev pub first_refusal : List Finding → Option Refusal
first_refusal [] = None
first_refusal (f ∷ fs) = Some (refusal_of f)
