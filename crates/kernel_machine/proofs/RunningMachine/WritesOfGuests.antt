-- What the running guest's next instruction writes, by the parts of a machine.
use Rattle.std.proofs.Common.{◌≡◌, ◌∙◌, ◌<◌, ◌≤◌, Option, [], cond, ap, sym, subst}
use Rattle.std.proofs.lemmas.Bool.{le-leb, lt-leb}
use Rattle.instruction_set.specs.NextWrites.{next_writes}
use Rattle.kernel_model.specs.KernelRecord.Image.{image}
use Rattle.kernel_model.specs.KernelRecord.Kernel.{Kernel}
use Rattle.kernel_model.specs.declared.kernel_record.stops.Stop.{Stop}
use Rattle.kernel_model.proofs.KernelRecord.ImageWords.{image-list}
use Rattle.guest_turns.specs.Guarded.{is_owned}
use Rattle.kernel_machine.specs.KernelSteps.GuestWrites.{guest_writes}
use Rattle.kernel_machine.specs.declared.running_machine.parts.Parts.{Parts}
use Rattle.kernel_machine.specs.RunningMachine.Machine.{IsWhole, kernel_of}

-- where no guest runs
pub task-writes : (k : Kernel) → k.lists.running < 5 → guest_writes k ≡ []
task-writes k low = ap (λ b. cond b (next_writes (is_owned k.lists) (image k) k.regs) []) (lt-leb 5 k.lists.running low)

-- where one does
guest-writes : (k : Kernel) → 5 ≤ k.lists.running → next_writes (is_owned k.lists) (image k) k.regs ≡ guest_writes k
guest-writes k high = ap (λ b. cond b (next_writes (is_owned k.lists) (image k) k.regs) []) (sym (le-leb 5 k.lists.running high))

module _ (p : Parts) (stop : Option Stop) (w : IsWhole p stop) where
  pub byte-here : p.regs.c < 256
  byte-here = subst (λ r. r.c < 256) (sym w.represents.regs) w.valid.registers.byte

  pub parts-write : 5 ≤ (kernel_of p stop).lists.running → next_writes (is_owned (kernel_of p stop).lists) p.store p.regs ≡ guest_writes (kernel_of p stop)
  parts-write high =
      let k : Kernel = kernel_of p stop in
      (λ j. next_writes (is_owned k.lists) (image-list p.store k w.represents.image j) (w.represents.regs j)) ∙ guest-writes k high
