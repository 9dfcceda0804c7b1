-- The lines of a text, surveyed: where each is and what its label names.
use Rattle.std.specs.Prelude.{ℕ, ◌+◌, if◌then◌else◌, List, [], ◌∷◌, nat_lt, Result, Ok, Err}
use Rattle.assembly.specs.AssemblyText.Labels.{Table, no_labels, repeats, with_label}
use Rattle.assembly.specs.AssemblyText.Places.{end_of, first_offset, hunk_size, most_words, pairs_of}
use Rattle.assembly.specs.AssemblyText.LineText.{line_of}
use Rattle.assembly.specs.AssemblyText.Refusal.{at_line}
use Rattle.module_text.specs.TextReader.Refusal.{Refusal}
use Rattle.module_text.specs.TextReader.Steps.{◌>>=◌}
use Rattle.assembly.specs.declared.assembly_text.errors.LineError.{LineError}
use Rattle.assembly.specs.declared.assembly_text.errors.LineError.TheVariants.{RepeatedLabel, HunkTooLong}
use Rattle.assembly.specs.declared.assembly_text.statements.Line.{Line}

-- what is known after some lines: where their bytes end, how many pairs they give, and their labels
pub record Layout : Type 0 where
  -- where their bytes end, from the first offset on
  pub offset : ℕ
  -- how many pairs they give the global table
  pub pairs : ℕ
  -- the place of each of their labels
  pub table : Table

-- before the first line
abbrev pub no_lines : Layout
no_lines = record { offset = first_offset; pairs = 0; table = no_labels }

-- after one more line
abbrev pub with_line : Layout → Line → Layout
with_line layout line = record {
  offset = end_of line.statement layout.offset;
  pairs = layout.pairs + pairs_of line.statement;
  table = with_label layout.table layout.offset line;
}

-- a line may come next where it repeats no label and the hunk stays within its limit
unfoldable pub admitted : Layout → Line → Result Unit LineError
admitted layout line =
    if repeats layout.table line then Err RepeatedLabel else
    if nat_lt most_words (hunk_size (end_of line.statement layout.offset) (layout.pairs + pairs_of line.statement)) then Err HunkTooLong else
    Ok tt

-- line n comes next
abbrev pub survey_line : ℕ → Layout → List ℕ → Result Layout Refusal
survey_line n layout text = do
  line ← at_line n (line_of text)
  fits ← at_line n (admitted layout line)
  Ok (with_line layout line)

-- the lines from line n on, after those that gave this layout
abbrev pub survey : ℕ → Layout → List (List ℕ) → Result Layout Refusal
survey n layout [] = Ok layout
survey n layout (text ∷ texts) = do
  next ← survey_line n layout text
  survey (n + 1) next texts
