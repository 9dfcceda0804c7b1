use Rattle.std.proofs.Common.{◌∙◌, ap, arith, refl, subst, sym}
use Rattle.kernel_model.specs.KernelRecord.NotedEvents.{NotesAll}
use Rattle.kernel_model.proofs.KernelRecord.NotedInTurn.{notes-none}
use Rattle.kernel_machine.specs.KernelSteps.Stepped.{Stepped}
use Rattle.kernel_machine.proofs.KernelSteps.Runs.{run-steps}
use Rattle.kernel_machine.specs.RunningMachine.Runs.{is_met}
use Rattle.kernel_machine.proofs.RunningMachine.MetBreakpoints.{avoids-next}
use Rattle.kernel_machine.proofs.RunningMachine.RunParts.{last-behind, last-of-quiet, run-behind}
use Rattle.kernel_machine.proofs.running_machine.machine.Machine.advance.Goals as goal
use Rattle.kernel_machine.proofs.running_machine.machine.Machine.advance.Goals.{else-quiet-gt0-via-else-quiet-gt0, else-quiet-gt0-via-then-quiet-gt0+else-is_met}

pub step-requires : goal.step-requires
step-requires g c =
    let q = c.pass-quiet.result in
    let k = c.args.self.now.kernel in
    let same = ap (λ (x : Stepped). x.kernel.steps) c.pass-quiet.ensures.quiet in
    omega (arith, same, run-steps q k, c.requires.steps, c.pass-quiet.ensures.most, c.if-quiet-most.false)

pub returns-then-quiet-most-clause-some : goal.returns-then-quiet-most-clause-some
returns-then-quiet-most-clause-some g c = omega (arith, c.if-quiet-most.true, c.requires.some)

pub returns-then-quiet-most-clause-last : goal.returns-then-quiet-most-clause-last
returns-then-quiet-most-clause-last g c = last-of-quiet _ _ _ c.pass-quiet.ensures.quiet c.pass-quiet.ensures.goes (omega (arith, c.if-quiet-most.true, c.requires.some))

pub returns-then-quiet-most-clause-kernel : goal.returns-then-quiet-most-clause-kernel
returns-then-quiet-most-clause-kernel g c = sym (ap (λ (x : Stepped). x.kernel) c.pass-quiet.ensures.quiet)

pub returns-then-quiet-most-clause-output : goal.returns-then-quiet-most-clause-output
returns-then-quiet-most-clause-output g c = c.pass-quiet.ensures.output ∙ sym (ap (λ (x : Stepped). x.bytes) c.pass-quiet.ensures.quiet)

pub returns-then-quiet-most-clause-events : goal.returns-then-quiet-most-clause-events
returns-then-quiet-most-clause-events g c = subst (NotesAll _ _ _ _) (sym (ap (λ (x : Stepped). x.events) c.pass-quiet.ensures.quiet)) (notes-none _ _)

pub returns-then-is_met-clause-last : goal.returns-then-is_met-clause-last
returns-then-is_met-clause-last g c = last-of-quiet _ _ _ c.pass-quiet.ensures.quiet c.pass-quiet.ensures.goes (omega (arith, c.if-quiet-gt0.true))

pub returns-clause-last : goal.returns-clause-last
returns-clause-last g c = last-behind _ _ _ _ refl c.pass-quiet.ensures.quiet c.pass-quiet.ensures.goes

pub returns-clause-kernel : goal.returns-clause-kernel
returns-clause-kernel g c = c.step.ensures.kernel ∙ sym (ap (λ (x : Stepped). x.kernel) (run-behind _ _ _ c.pass-quiet.ensures.quiet))

pub returns-clause-output : goal.returns-clause-output
returns-clause-output g c = c.step.ensures.output ∙ sym (ap (λ (x : Stepped). x.bytes) (run-behind _ _ _ c.pass-quiet.ensures.quiet))

pub returns-clause-events : goal.returns-clause-events
returns-clause-events g c = subst (NotesAll _ _ _ _) (sym (ap (λ (x : Stepped). x.events) (run-behind _ _ _ c.pass-quiet.ensures.quiet))) c.step.ensures.events

pub returns-clause-before : goal.returns-clause-before
returns-clause-before g c =
    let b = c.args.breakpoints.now in
    let q = c.pass-quiet.result in
    let k = c.args.self.now.kernel in
    avoids-next b k q c.pass-quiet.ensures.before
    (λ some.
    elim c.else-quiet-gt0.branch [
      | else-quiet-gt0-via-else-quiet-gt0 w ↦ absurd (omega (arith, some, w.if-quiet-gt0.false))
      | else-quiet-gt0-via-then-quiet-gt0+else-is_met w ↦ ap (λ (x : Stepped). is_met b x.kernel) c.pass-quiet.ensures.quiet ∙ sym w.is_met.ensures ∙ w.if-is_met.false
    ])
