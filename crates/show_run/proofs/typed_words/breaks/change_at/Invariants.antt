use Rattle.show_run.specs.TypedWords.Runs.{IsRun}
use Rattle.show_run.proofs.typed_words.breaks.change_at.Given as goal

abbrev pub invariant-loop-address : goal.invariant-loop-address
invariant-loop-address l = IsRun l.case.session l.debuggee.machine.state
