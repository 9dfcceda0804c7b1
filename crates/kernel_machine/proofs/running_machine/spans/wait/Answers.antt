use Rattle.std.proofs.Common.{None, arith, subst, sym}
use Rattle.kernel_machine.specs.RunningMachine.Machine.{kernel_of}
use Rattle.kernel_machine.specs.RunningMachine.Runs.{HasPassed}
use Rattle.kernel_machine.proofs.RunningMachine.QuietParts.{period-here}
use Rattle.kernel_machine.proofs.RunningMachine.QuietSpan.{passed-idle, passed-none}
use Rattle.kernel_machine.proofs.running_machine.spans.wait.Goals as goal

pub count-requires-clause-period : goal.count-requires-clause-period
count-requires-clause-period c = period-here c.args.parts.now c.requires.whole

pub returns-then-steps-gt0-clause-passed : goal.returns-then-steps-gt0-clause-passed
returns-then-steps-gt0-clause-passed c =
    subst (HasPassed c.args.steps (kernel_of c.args.parts.now None)) (sym c.count.ensures)
    (passed-idle c.args.parts.now c.requires.whole c.args.steps c.requires.idle (c.requires.quiet c.if-steps-gt0.true) c.requires.most)

pub returns-else-steps-gt0-clause-passed : goal.returns-else-steps-gt0-clause-passed
returns-else-steps-gt0-clause-passed c = passed-none c.args.parts.now c.requires.whole c.args.steps (omega (arith, c.if-steps-gt0.false))
