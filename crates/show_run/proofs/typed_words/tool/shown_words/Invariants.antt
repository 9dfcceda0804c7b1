use Rattle.std.proofs.Common.{length}
use Rattle.show_run.specs.TypedWords.Runs.{IsRun}
use Rattle.show_run.proofs.typed_words.tool.shown_words.Given as goal

abbrev pub invariant-loop-line : goal.invariant-loop-line
invariant-loop-line l = IsRun l.case.session l.debuggee.machine.state

abbrev pub decreases-loop-line : goal.decreases-loop-line
decreases-loop-line l = length l.rest
