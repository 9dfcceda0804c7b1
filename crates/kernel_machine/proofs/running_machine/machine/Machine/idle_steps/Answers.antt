use Rattle.std.proofs.Common.{◌∙◌, ap, subst, sym}
use Rattle.kernel_machine.specs.RunningMachine.Machine.{IsWhole, MachineView, kernel_of}
use Rattle.kernel_machine.specs.RunningMachine.Runs.{AreQuiet, IsIdle}
use Rattle.kernel_machine.proofs.RunningMachine.MachineStep.{here, not-stopped}
use Rattle.kernel_machine.proofs.running_machine.machine.Machine.idle_steps.Goals as goal

pub idle_steps-requires : goal.idle_steps-requires
idle_steps-requires c =
    let goes = ap (λ (v : MachineView). v.kernel.stop) c.self.view_is ∙ c.requires.goes in
    subst (IsWhole c.self.inside.parts) (not-stopped c.self.inside.parts c.self.inside.stop c.self.invariant goes) c.self.invariant

pub returns-clause-quiet : goal.returns-clause-quiet
returns-clause-quiet c = λ n few.
    let goes = ap (λ (v : MachineView). v.kernel.stop) c.self.view_is ∙ c.requires.goes in
    subst (AreQuiet n) (here c.self.inside.parts c.self.inside.stop c.self.invariant goes ∙ ap (λ (v : MachineView). v.kernel) c.self.view_is) (c.idle_steps.ensures.quiet n few)

pub returns-clause-some : goal.returns-clause-some
returns-clause-some c = λ idle.
    let goes = ap (λ (v : MachineView). v.kernel.stop) c.self.view_is ∙ c.requires.goes in
    c.idle_steps.ensures.some (subst IsIdle (sym (here c.self.inside.parts c.self.inside.stop c.self.invariant goes ∙ ap (λ (v : MachineView). v.kernel) c.self.view_is)) idle)
