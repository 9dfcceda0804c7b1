use Rattle.std.proofs.Common.{◌∙◌, ap, sym}
use Rattle.kernel_machine.specs.RunningMachine.Machine.{MachineView}
use Rattle.kernel_machine.proofs.RunningMachine.OneMachine.{stop-of}
use Rattle.kernel_machine.proofs.running_machine.machine.Machine.stop.Goals as goal

pub returns : goal.returns
returns c = sym (stop-of c.self.inside.parts c.self.inside.stop) ∙ ap (λ (v : MachineView). v.kernel.stop) c.self.view_is
