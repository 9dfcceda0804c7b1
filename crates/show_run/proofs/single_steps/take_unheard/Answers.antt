use Rattle.std.proofs.Common.{ap, arith}
use Rattle.tripos_machine.specs.State.{steps_of}
use Rattle.tripos_machine.proofs.StateRuns.{run-steps}
use Rattle.show_run.proofs.single_steps.take_unheard.Goals as goal

pub returns-in-Ok : goal.returns-in-Ok
returns-in-Ok c = omega (arith, ap steps_of c.in-Ok.ensures.end.0.state, run-steps c.args.count c.args.machine.now.state)
