use Rattle.std.proofs.Common.{◌≡◌, ◌∙◌, ap, arith, subst, sym}
use Rattle.std.specs.Prelude.{MatchOption}
use Rattle.kernel_machine.specs.RunningMachine.Machine.{IsWhole, MachineView, kernel_of}
use Rattle.kernel_machine.specs.RunningMachine.PlainSteps.{IsPlain, IsPlainStep}
use Rattle.kernel_machine.proofs.RunningMachine.MachineStep.{not-stopped}
use Rattle.kernel_machine.proofs.RunningMachine.PlainSteps.{step-plain, whole-plain}
use Rattle.kernel_machine.proofs.running_machine.machine.Machine.execute.Goals as goal

pub execute_one-requires-clause-whole : goal.execute_one-requires-clause-whole
execute_one-requires-clause-whole c =
    let goes = ap (λ (v : MachineView). v.kernel.stop) c.self.view_is ∙ c.requires.goes in
    subst (IsWhole c.self.inside.parts) (not-stopped c.self.inside.parts c.self.inside.stop c.self.invariant goes) c.self.invariant

pub execute_one-requires-clause-steps : goal.execute_one-requires-clause-steps
execute_one-requires-clause-steps c =
    let steps = ap (λ (v : MachineView). v.kernel.steps) c.self.view_is in
    omega (arith, c.requires.steps, steps, c.self.invariant.represents.steps)

pub invariant_of-self : goal.invariant_of-self
invariant_of-self c =
    let goes = ap (λ (v : MachineView). v.kernel.stop) c.self.view_is ∙ c.requires.goes in
    whole-plain c.self.inside.parts c.self.inside.stop c.self.invariant goes c.execute_one.new.parts c.execute_one.result c.execute_one.ensures.step

pub returns-clause-step : goal.returns-clause-step
returns-clause-step c =
    let goes = ap (λ (v : MachineView). v.kernel.stop) c.self.view_is ∙ c.requires.goes in
    let j = kernel_of c.execute_one.new.parts c.self.inside.stop in
    subst (λ (v : MachineView). MatchOption c.execute_one.result (j ≡ v.kernel) (λ p. IsPlainStep p v.kernel j)) c.self.view_is
    (step-plain c.self.inside.parts c.self.inside.stop c.self.invariant goes c.execute_one.new.parts c.execute_one.result c.execute_one.ensures.step)

pub returns-clause-none : goal.returns-clause-none
returns-clause-none c = λ none plain.
    let p = c.self.inside.parts in
    let goes = ap (λ (v : MachineView). v.kernel.stop) c.self.view_is ∙ c.requires.goes in
    let here = subst IsPlain (sym (ap (λ (v : MachineView). v.kernel) c.self.view_is)) plain in
    c.execute_one.ensures.none none (subst (λ stop. IsPlain (kernel_of p stop)) (not-stopped p c.self.inside.stop c.self.invariant goes) here)
