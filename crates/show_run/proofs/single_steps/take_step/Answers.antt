use Rattle.std.proofs.Common.{ap, arith}
use Rattle.tripos_machine.specs.State.{steps_of}
use Rattle.tripos_machine.proofs.StateRuns.{run-steps}
use Rattle.show_run.proofs.TypedWords.SessionRuns.{on-done}
use Rattle.show_run.proofs.single_steps.take_step.Goals as goal

pub returns-in-Ok : goal.returns-in-Ok
returns-in-Ok c = on-done c.keep_all.result (omega (arith, ap steps_of c.in-Ok.ensures.state, run-steps 1 c.args.machine.now.state))
