use Rattle.std.proofs.Common.{◌≡◌, ◌≤◌, ◌+◌, length}
use Rattle.module_text.specs.TextReader.Lines.{lines_of}
use Rattle.program_places.specs.MapOfText.{first_draft, read_on}
use Rattle.program_places.proofs.reading.read_map.Given as goal

abbrev pub invariant-loop-line : goal.invariant-loop-line
invariant-loop-line l = record {
  read : read_on l.draft (l.line_number + 1) (lines_of l.rest) ≡ read_on first_draft 1 (lines_of l.text);
  fits : l.line_number + length l.rest ≤ length l.text;
  lines : l.line_number + length (lines_of l.rest) ≡ length (lines_of l.text);
}

abbrev pub decreases-loop-line : goal.decreases-loop-line
decreases-loop-line l = length l.rest
