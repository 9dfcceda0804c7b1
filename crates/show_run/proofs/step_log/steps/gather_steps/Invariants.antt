use Rattle.std.proofs.Common.{◌≡◌, ◌≤◌, length}
use Rattle.tripos_machine.specs.State.{words_of}
use Rattle.show_run.specs.StepLog.StepLines.{log_text}
use Rattle.show_run.proofs.ToldSteps.{HasTold}
use Rattle.show_run.proofs.step_log.steps.gather_steps.Given as goal

-- the lines of the steps so far were gathered
abbrev pub invariant-loop : goal.invariant-loop
invariant-loop g l = record {
  so_far : HasTold log_text l.n l.fn.machine.state l.counter l.machine.state (g.K.Sink.holds l.fn.out) (g.K.Sink.holds l.out) l.fn.pending l.pending;
  size : length l.former ≡ length (words_of l.machine.state);
  later : g.K.Sink.faults l.fn.out ≤ g.K.Sink.faults l.out;
}
