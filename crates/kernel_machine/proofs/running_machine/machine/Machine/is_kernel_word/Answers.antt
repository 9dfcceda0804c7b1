use Rattle.std.proofs.Common.{◌∙◌, ap}
use Rattle.guest_turns.specs.Guarded.{is_owned}
use Rattle.kernel_machine.specs.RunningMachine.Machine.{MachineView, kernel_of}
use Rattle.kernel_machine.proofs.running_machine.machine.Machine.is_kernel_word.Goals as goal

pub is_kernel_word-requires : goal.is_kernel_word-requires
is_kernel_word-requires c = ((kernel_of c.self.inside.parts c.self.inside.stop).lists, c.self.invariant.represents.keeper)

pub returns : goal.returns
returns c =
    c.is_kernel_word.ensures (kernel_of c.self.inside.parts c.self.inside.stop).lists c.self.invariant.represents.keeper
    ∙ ap (λ (v : MachineView). is_owned v.kernel.lists c.args.a) c.self.view_is
