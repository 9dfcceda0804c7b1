use Rattle.std.proofs.Common.{◌∙◌, ap, arith, sym}
use Rattle.kernel_machine.specs.KernelSteps.GuestWrites.{guest_writes}
use Rattle.kernel_machine.specs.RunningMachine.Machine.{MachineView, kernel_of}
use Rattle.kernel_machine.proofs.RunningMachine.WritesOfGuests.{byte-here, parts-write, task-writes}
use Rattle.kernel_machine.proofs.running_machine.machine.Machine.next_writes.Goals as goal

pub returns-then-running-lt-FIRST_GUEST : goal.returns-then-running-lt-FIRST_GUEST
returns-then-running-lt-FIRST_GUEST c = sym (task-writes c.args.self.now.kernel (omega (arith, c.running.ensures, c.if-running-lt-FIRST_GUEST.true)))

pub guest_writes-requires-clause-byte : goal.guest_writes-requires-clause-byte
guest_writes-requires-clause-byte c = byte-here c.self.inside.parts c.self.inside.stop c.self.invariant

pub guest_writes-requires-clause-keeper : goal.guest_writes-requires-clause-keeper
guest_writes-requires-clause-keeper c = ((kernel_of c.self.inside.parts c.self.inside.stop).lists, c.self.invariant.represents.keeper)

pub returns : goal.returns
returns c =
    let p = c.self.inside.parts in
    let k = kernel_of p c.self.inside.stop in
    c.guest_writes.ensures k.lists c.self.invariant.represents.keeper
    ∙ parts-write p c.self.inside.stop c.self.invariant (omega (arith, c.running.ensures, c.if-running-lt-FIRST_GUEST.false, ap (λ (v : MachineView). v.kernel.lists.running) c.self.view_is))
    ∙ ap (λ (v : MachineView). guest_writes v.kernel) c.self.view_is
