use Rattle.kernel_machine.proofs.MachineBoot.BootedKernels.{booted-events}
use Rattle.kernel_machine.proofs.machine_boot.laws.boot_events_law.Goals as goal

pub returns : goal.returns
returns c = λ s x h is. booted-events s h x is
