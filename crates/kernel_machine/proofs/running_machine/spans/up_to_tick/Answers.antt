use Rattle.std.proofs.Common.{◌-◌, ◌%◌, subst, sym}
use Rattle.kernel_machine.specs.RunningMachine.Runs.{HasNoTick}
use Rattle.kernel_machine.proofs.RunningMachine.UncountedSteps.{no-tick}
use Rattle.kernel_machine.proofs.running_machine.spans.up_to_tick.Goals as goal

pub returns-clause-before : goal.returns-clause-before
returns-clause-before c =
    let p = c.args.parts.now in
    subst (λ z. HasNoTick (z - p.step % z) p) (sym c.from-period.ensures) (no-tick p c.requires.period)
