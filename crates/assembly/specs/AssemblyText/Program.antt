-- A program: the lines of a text, each read.
use Rattle.std.specs.Prelude.{ℕ, ◌≡◌, ◌≤◌, List, [], ◌∷◌, Option, Ok, sum_by}
use Rattle.std.specs.List.{AllZip, IsDistinct, filter_map}
use Rattle.std.specs.Map.{lookup}
use Rattle.std.specs.Option.{option_map}
use Rattle.std.specs.Str.{bytes_eq}
use Rattle.assembly.specs.AssemblyText.Labels.{Table, named_place}
use Rattle.assembly.specs.AssemblyText.Places.{end_of, first_offset, hunk_size, most_words, pairs_of}
use Rattle.assembly.specs.AssemblyText.LineText.{line_of}
use Rattle.assembly.specs.declared.assembly_text.places.Place.{Place}
use Rattle.assembly.specs.declared.assembly_text.statements.Line.{Line}

-- each text is read as the line in its place
abbrev pub AreRead : List (List ℕ) → List Line → Type 0
AreRead texts program = AllZip (λ text line. line_of text ≡ Ok line) texts program

-- the labels that the lines define, in their order
abbrev pub labels_of : List Line → List (List ℕ)
labels_of program = filter_map (λ line. line.label) program

-- where the bytes of the lines end, those of the first beginning at the offset
abbrev pub end_after : ℕ → List Line → ℕ
end_after offset [] = offset
end_after offset (line ∷ lines) = end_after (end_of line.statement offset) lines

-- how many pairs of the global table the lines give
abbrev pub pair_count : List Line → ℕ
pair_count program = sum_by (λ line. pairs_of line.statement) program

-- the words of the whole hunk
abbrev pub program_size : List Line → ℕ
program_size program = hunk_size (end_after first_offset program) (pair_count program)

-- the texts are the lines of a program in which no label is defined twice, and whose hunk is within its limit
pub record IsProgram (texts : List (List ℕ)) (program : List Line) : Type 0 where
  -- each line says this
  pub read : AreRead texts program
  -- no label is defined twice
  pub once : IsDistinct bytes_eq (labels_of program)
  -- the hunk is not too long
  pub fits : program_size program ≤ most_words

-- each line with the offset at which the bytes of the line before it end
abbrev pub placed : ℕ → List Line → List (ℕ × Line)
placed offset [] = []
placed offset (line ∷ lines) = (offset, line) ∷ placed (end_of line.statement offset) lines

-- the label of a line, with what it names
abbrev pub defined : ℕ × Line → Option (List ℕ × Place)
defined at = option_map (λ name. (name, named_place at.0 at.1.statement)) at.1.label

-- the table gives each label that a line defines what it names there, and nothing to other names
abbrev pub IsTable : Table → List Line → Type 0
IsTable table program = (name : List ℕ) → table name ≡ lookup (bytes_eq name) (filter_map defined (placed first_offset program))
