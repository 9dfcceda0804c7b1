use Rattle.std.proofs.Common.{ap, subst}
use Rattle.kernel_model.specs.KernelRecord.NotedEvents.{NotesAll}
use Rattle.kernel_model.proofs.KernelRecord.NotedInTurn.{notes-then}
use Rattle.kernel_machine.specs.KernelSteps.Step.{boot_events}
use Rattle.kernel_machine.specs.RunningMachine.Machine.{MachineView, kernel_of}
use Rattle.kernel_machine.proofs.running_machine.machine.Machine.note_boot.Goals as goal

pub returns : goal.returns
returns g c =
    let k = kernel_of c.self.inside.parts c.self.inside.stop in
    let held = c.self.invariant.represents.keeper.lists in
    subst (NotesAll _ _ _ _) (ap (λ (v : MachineView). boot_events v.kernel) c.self.view_is) (notes-then _ _ _ _ _ _ _ _ (c.note_residents.ensures k.lists held) (c.note_running.ensures k.lists held))
