use Rattle.std.proofs.Common.{refl}
use Rattle.kernel_machine.specs.KernelSteps.Step.{with_key_typed}
use Rattle.kernel_machine.proofs.RunningMachine.ServedParts.{leaves-key, typed-numbers}
use Rattle.kernel_machine.proofs.running_machine.devices.key.Goals as goal

pub returns-clause-left : goal.returns-clause-left
returns-clause-left g c = λ k st can.
    let typed = c.enter_key.ensures.typed k st in
    let held = typed.keeper.lists in
    leaves-key c.enter_key.new.parts k c.meet.new.store c.meet.new.self _ _ typed can (typed-numbers k) (c.meet.ensures.lists (with_key_typed k).lists held) (c.meet.ensures.left (with_key_typed k).lists held) refl
    (c.meet.ensures.notes (with_key_typed k).lists held)
