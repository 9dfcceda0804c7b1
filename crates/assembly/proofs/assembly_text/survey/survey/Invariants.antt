use Rattle.std.proofs.Common.{◌≡◌, ◌≤◌, ◌+◌, length}
use Rattle.module_text.specs.TextReader.Lines.{lines_of}
use Rattle.assembly.specs.AssemblyText.KeptLabels.{layout_of}
use Rattle.assembly.specs.AssemblyText.Survey.{no_lines, survey}
use Rattle.assembly.proofs.assembly_text.survey.survey.Given as goal

abbrev pub invariant-loop-line : goal.invariant-loop-line
invariant-loop-line l = record {
  lines : survey (l.n + 1) (layout_of l.known) (lines_of l.rest) ≡ survey 1 no_lines (lines_of l.text);
  low : l.known.offset ≤ 262144;
  few : l.known.pairs ≤ 65536;
  number : l.n + length l.rest ≤ length l.text;
}

abbrev pub decreases-loop-line : goal.decreases-loop-line
decreases-loop-line l = length l.rest
