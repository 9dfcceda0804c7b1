use Rattle.std.proofs.Common.{◌≡◌, ◌≤◌, ◌+◌, ◌++◌, length, map, None}
use Rattle.module_text.specs.TextReader.Lines.{lines_of}
use Rattle.assembly.specs.AssemblyText.KeptLabels.{table_of}
use Rattle.tool_texts.specs.Reports.{report_of}
use Rattle.assembly_notes.specs.Lines.{notes_from}
use Rattle.assembly_notes.proofs.lines.push_notes.Given as goal

abbrev pub invariant-loop-line : goal.invariant-loop-line
invariant-loop-line l = record {
  notes : map report_of l.reports.items ++ notes_from (table_of l.labels) (l.n + 1) l.going (lines_of l.rest)
      ≡ map report_of l.initial.reports.items ++ notes_from (table_of l.labels) 1 None (lines_of l.text);
  number : l.n + length l.rest ≤ length l.text;
}

abbrev pub decreases-loop-line : goal.decreases-loop-line
decreases-loop-line l = length l.rest
