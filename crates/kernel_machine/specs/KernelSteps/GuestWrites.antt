-- What the instruction of a guest writes in a step.
use Rattle.std.specs.Prelude.{ℕ, List, [], if◌then◌else◌}
use Rattle.instruction_set.specs.NextWrites.{next_writes}
use Rattle.kernel_model.specs.KernelRecord.Image.{image}
use Rattle.kernel_model.specs.KernelRecord.Kernel.{Kernel}
use Rattle.kernel_model.specs.KernelRecord.Task.{is_guest_id}
use Rattle.guest_turns.specs.Guarded.{is_owned}

-- The addresses and the words that the running guest's next instruction writes, in the order in which it writes them. A resident's turn
-- is no instruction, and where nobody runs there is none.
abbrev pub guest_writes : Kernel → List (ℕ × ℕ)
guest_writes k = if is_guest_id k.lists.running then next_writes (is_owned k.lists) (image k) k.regs else []
