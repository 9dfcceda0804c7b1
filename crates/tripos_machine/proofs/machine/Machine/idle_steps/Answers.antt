use Rattle.std.proofs.Common.{◌∙◌, ap, sym}
use Rattle.tripos_machine.specs.Machine.{MachineView, view_of}
use Rattle.tripos_machine.proofs.QuietSteps.{full-quiet, none-quiet}
use Rattle.tripos_machine.proofs.machine.Machine.idle_steps.Goals as goal

pub returns-in-Bare-clause-quiet : goal.returns-in-Bare-clause-quiet
returns-in-Bare-clause-quiet c = λ n few. none-quiet n c.args.self.now.state few c.requires.goes

pub returns-in-Full-clause-quiet : goal.returns-in-Full-clause-quiet
returns-in-Full-clause-quiet c = λ n few.
    let here = sym (ap (λ (v : MachineView). v.state) c.self.view_is) ∙ ap (λ k. (view_of k).state) c.in-Full.is in
    full-quiet n c.args.self.now.state _ here (c.idle_steps.ensures.quiet n few)
