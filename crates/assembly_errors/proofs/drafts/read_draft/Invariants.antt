use Rattle.std.proofs.Common.{◌≡◌, ◌≤◌, ◌+◌, length}
use Rattle.module_text.specs.TextReader.Lines.{lines_of}
use Rattle.assembly_errors.specs.Drafts.{draft_of, drafted, no_draft}
use Rattle.assembly_errors.proofs.drafts.read_draft.Given as goal

abbrev pub invariant-loop-line : goal.invariant-loop-line
invariant-loop-line l = record {
  lines : drafted (l.n + 1) (draft_of l.draft) (lines_of l.rest) ≡ drafted 1 no_draft (lines_of l.text);
  low : l.draft.known.offset ≤ 262144;
  few : l.draft.known.pairs ≤ 65536;
  number : l.n + length l.rest ≤ length l.text;
}

abbrev pub decreases-loop-line : goal.decreases-loop-line
decreases-loop-line l = length l.rest
