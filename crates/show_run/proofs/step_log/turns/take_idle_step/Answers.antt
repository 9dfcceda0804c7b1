use Rattle.std.proofs.Common.{arith}
use Rattle.show_run.proofs.StepLog.QuietSteps.{idle-events}
use Rattle.tripos_machine.specs.Quiet.{AreQuiet}
use Rattle.show_run.proofs.step_log.turns.take_idle_step.Goals as goal

pub returns-clause-quiet : goal.returns-clause-quiet
returns-clause-quiet c = λ _.
    let q : AreQuiet 1 c.args.machine.now.state = c.idle_steps.ensures.quiet 1 (omega (arith, c.if-idle_steps-eq0.false)) in
    idle-events c.args.machine.now.state q.quiet
