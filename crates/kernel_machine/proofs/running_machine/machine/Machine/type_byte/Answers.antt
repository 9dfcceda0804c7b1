use Rattle.std.proofs.Common.{◌∙◌, ap}
use Rattle.kernel_machine.specs.RunningMachine.Machine.{MachineView, with_byte_typed}
use Rattle.kernel_machine.proofs.RunningMachine.TypedByte.{kernel-typed, whole-typed}
use Rattle.kernel_machine.proofs.running_machine.machine.Machine.type_byte.Goals as goal

pub invariant_of-self : goal.invariant_of-self
invariant_of-self c = whole-typed c.args.byte c.self.inside.parts c.enter.new.self c.self.inside.stop c.self.invariant c.enter.ensures.bytes

pub returns-clause-kernel : goal.returns-clause-kernel
returns-clause-kernel c =
    kernel-typed c.args.byte c.self.inside.parts c.enter.new.self c.self.inside.stop c.enter.ensures.bytes ∙ ap (λ (v : MachineView). with_byte_typed c.args.byte v.kernel) c.self.view_is
