-- The module that a text makes.
use Rattle.std.specs.Prelude.{ℕ, List, [], ◌∷◌, Result, Ok}
use Rattle.module_text.specs.Canonical.{printed}
use Rattle.module_text.specs.declared.modules.Module.{Module}
use Rattle.module_text.specs.TextReader.Lines.{lines_of}
use Rattle.assembly.specs.AssemblyText.Encoding.{Code, encode}
use Rattle.assembly.specs.AssemblyText.HunkWords.{hunk_words}
use Rattle.assembly.specs.AssemblyText.Places.{first_offset}
use Rattle.module_text.specs.TextReader.Refusal.{Refusal}
use Rattle.module_text.specs.TextReader.Steps.{◌>>=◌}
use Rattle.assembly.specs.AssemblyText.Survey.{no_lines, survey}

-- the module that has the code in one hunk
abbrev pub module_of : Code → Module
module_of code = record { hunks = record { words = hunk_words code; relocations = code.relocations } ∷ [] }

-- the module of a text, or its refusal
unfoldable pub assembly_of : List ℕ → Result Module Refusal
assembly_of text = do
  layout ← survey 1 no_lines (lines_of text)
  code ← encode 1 layout.table first_offset (lines_of text)
  Ok (module_of code)

-- the printed text of the module that an assembly text makes, or the first line in error
abbrev pub assembled : List ℕ → Result (List ℕ) Refusal
assembled text = do
  m ← assembly_of text
  Ok (printed m)
