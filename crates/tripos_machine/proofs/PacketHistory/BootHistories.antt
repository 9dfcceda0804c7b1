-- The history from a boot on.
use Rattle.std.proofs.Common.{◌≡◌, ℕ, ◌+◌, ◌≤◌, Ok, ◌++◌, arith}
use Rattle.kernel_model.specs.KernelRecord.Ranges.{most_steps}
use Rattle.session_text.specs.declared.sessions.Session.{Session}
use Rattle.kernel_machine.specs.KernelSteps.Step.{run}
use Rattle.kernel_machine.specs.KernelSteps.Stepped.{Stepped}
use Rattle.kernel_machine.specs.MachineBoot.Boot.{HasKernel, boot}
use Rattle.kernel_machine.proofs.MachineBoot.BootedKernels.{booted-events}
use Rattle.tripos_machine.specs.EventHistory.Ledger.{AreOnce}
use Rattle.tripos_machine.proofs.EventHistory.Following.{follows-join}
use Rattle.tripos_machine.proofs.EventHistory.Whole.{whole-history}
use Rattle.tripos_machine.specs.PacketHistory.Queues.{ledger_of}
use Rattle.tripos_machine.specs.PacketHistory.Steps.{history}
use Rattle.tripos_machine.proofs.PacketHistory.Runs.{run-follows}
use Rattle.tripos_machine.proofs.PacketHistory.Histories.{each-moves, whole-law}
use Rattle.tripos_machine.specs.PacketHistory.Booted.{BootHistory, boot_history, no_packets}
use Rattle.tripos_machine.proofs.PacketHistory.BootMoves.{boot-moves}
use Rattle.tripos_machine.proofs.PacketHistory.BootedLists.{IsBooted, booted-is}

none-once : AreOnce no_packets
none-once = record { once = λ q p. omega arith; one = λ q r p here there. cc }

pub booted-history : (n : ℕ) (s : Session) (x : Stepped) → HasKernel s → boot s ≡ Ok x → n ≤ most_steps → BootHistory n x
booted-history n s x h is few =
    let b : IsBooted x.kernel = booted-is s h x is in
    let most : x.kernel.steps + n ≤ most_steps = omega (arith, few, b.steps) in
    record {
      queues =
          whole-history (boot_history x ++ history n x.kernel) no_packets (ledger_of (run n x.kernel).kernel.lists) none-once tt
          (follows-join (boot_history x) (history n x.kernel) no_packets (ledger_of x.kernel.lists) (ledger_of (run n x.kernel).kernel.lists)
          (boot-moves (λ e. 0) s h x is) (run-follows n x.kernel (each-moves n x.kernel b.valid most)));
      booted = booted-events s h x is;
      steps = whole-law n x.kernel b.valid most;
    }
