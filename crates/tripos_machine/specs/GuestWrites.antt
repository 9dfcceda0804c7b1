-- What the instruction of a guest writes in a step of a machine of either kind, and which words none may write.
use Rattle.std.specs.Prelude.{ℕ, Bool, List}
use Rattle.instruction_set.specs.NextWrites.{next_writes}
use Rattle.bare_machine.specs.Step.{unmarked}
use Rattle.guest_turns.specs.Guarded.{is_owned}
use Rattle.kernel_machine.specs.KernelSteps.GuestWrites.{guest_writes as kernel_guest_writes}
use Rattle.tripos_machine.specs.State.{State}
use Rattle.tripos_machine.specs.State.State.{Bare, Full}

-- The addresses and the words that a guest's next instruction writes, in the order in which it writes them. On a machine without a kernel
-- every instruction is a guest's, and every word may be written.
abbrev pub guest_writes : State → List (ℕ × ℕ)
guest_writes (Bare m) = next_writes unmarked m.words m.regs
guest_writes (Full k) = kernel_guest_writes k

-- the word at the address is the kernel's; a machine without a kernel has none of these
abbrev pub is_kernels : State → ℕ → Bool
is_kernels (Bare m) a = unmarked a
is_kernels (Full k) a = is_owned k.lists a
