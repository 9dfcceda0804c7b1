use Rattle.std.proofs.Common.{◌∙◌, ap, arith, subst, sym}
use Rattle.kernel_machine.specs.KernelSteps.Step.{run}
use Rattle.kernel_machine.specs.RunningMachine.Machine.{IsWhole, MachineView}
use Rattle.kernel_machine.specs.RunningMachine.Runs.{Avoids}
use Rattle.kernel_machine.proofs.RunningMachine.MachineStep.{goes-passed, here, not-stopped, run-passed, whole-passed}
use Rattle.kernel_machine.proofs.running_machine.machine.Machine.pass.Goals as goal

pub pass-requires-clause-whole : goal.pass-requires-clause-whole
pass-requires-clause-whole c =
    let goes = ap (λ (v : MachineView). v.kernel.stop) c.self.view_is ∙ c.requires.goes in
    subst (IsWhole c.self.inside.parts) (not-stopped c.self.inside.parts c.self.inside.stop c.self.invariant goes) c.self.invariant

pub pass-requires-clause-steps : goal.pass-requires-clause-steps
pass-requires-clause-steps c =
    let steps = ap (λ (v : MachineView). v.kernel.steps) c.self.view_is in
    omega (arith, c.requires.steps, steps, c.self.invariant.represents.steps)

pub invariant_of-self : goal.invariant_of-self
invariant_of-self c =
    let goes = ap (λ (v : MachineView). v.kernel.stop) c.self.view_is ∙ c.requires.goes in
    whole-passed c.self.inside.parts c.self.inside.stop c.self.invariant goes c.pass.result c.pass.new.parts c.pass.ensures.passed

pub returns-clause-quiet : goal.returns-clause-quiet
returns-clause-quiet c =
    let goes = ap (λ (v : MachineView). v.kernel.stop) c.self.view_is ∙ c.requires.goes in
    ap (λ (v : MachineView). run c.pass.result v.kernel) (sym c.self.view_is) ∙ run-passed c.self.inside.parts c.self.inside.stop c.self.invariant goes c.pass.result c.pass.new.parts c.pass.ensures.passed

pub returns-clause-goes : goal.returns-clause-goes
returns-clause-goes c =
    let goes = ap (λ (v : MachineView). v.kernel.stop) c.self.view_is ∙ c.requires.goes in
    goes-passed c.self.inside.parts c.self.inside.stop c.self.invariant goes c.pass.result c.pass.new.parts c.pass.ensures.passed

pub returns-clause-before : goal.returns-clause-before
returns-clause-before c =
    let goes = ap (λ (v : MachineView). v.kernel.stop) c.self.view_is ∙ c.requires.goes in
    subst (Avoids c.args.breakpoints.now c.pass.result) (here c.self.inside.parts c.self.inside.stop c.self.invariant goes ∙ ap (λ (v : MachineView). v.kernel) c.self.view_is) c.pass.ensures.before
