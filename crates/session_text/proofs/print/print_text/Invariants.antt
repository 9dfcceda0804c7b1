use Rattle.std.proofs.Common.{◌≡◌, ◌≤◌, ◌++◌, List, ℕ, length, map}
use Rattle.std.specs.Io.KnownBytes.{Appends}
use Rattle.module_text.specs.TextReader.Lines.{lines_of, text_of_lines}
use Rattle.session_text.specs.Entries.{colon_line}
use Rattle.session_text.proofs.print.print_text.Given as goal

abbrev pub invariant-loop-line : goal.invariant-loop-line
invariant-loop-line g l = record {
  text : (front : List ℕ) × Appends (g.K.Sink.holds l.fn.out) (g.K.Sink.holds l.out) front
      × (text_of_lines (map colon_line (lines_of l.text)) ≡ front ++ text_of_lines (map colon_line (lines_of l.rest)));
  later : g.K.Sink.faults l.fn.out ≤ g.K.Sink.faults l.out;
}

abbrev pub decreases-loop-line : goal.decreases-loop-line
decreases-loop-line g l = length l.rest
