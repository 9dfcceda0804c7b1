-- Steps in which no device acts.
use Rattle.std.specs.Prelude.{◌≡◌, ℕ, ◌+◌, ◌/◌, ◌<◌, ◌⊎◌, List, [], ◌∷◌}
use Rattle.instruction_set.specs.Instruction.{After, instruction}
use Rattle.kernel_lists.specs.PacketQueue.QueueWords.{QueuedPacket}
use Rattle.kernel_model.specs.KernelRecord.Image.{image}
use Rattle.kernel_model.specs.KernelRecord.Kernel.{Kernel}
use Rattle.kernel_model.specs.KernelRecord.Lists.{Lists}
use Rattle.kernel_devices.specs.Tick.{with_tick}
use Rattle.guest_turns.specs.Guarded.{is_owned}
use Rattle.kernel_machine.specs.KernelSteps.Stepped.{with_store}

-- the first key, which comes before any other, comes after this step
abbrev pub ComeAfter : ℕ → List (ℕ × ℕ) → Type 0
ComeAfter n [] = Unit {0}
ComeAfter n (key ∷ keys) = n < key.0

-- the first packet, and so each packet, is due after this tick
abbrev pub AreDueAfter : ℕ → List QueuedPacket → Type 0
AreDueAfter n [] = Unit {0}
AreDueAfter n (p ∷ ps) = n < p.last

-- Up to this tick no packet is returned: none is due by then, or the clock does not tick. A packet that is due already is
-- returned at the next tick.
abbrev pub AwaitsTick : ℕ → Lists → Type 0
AwaitsTick now l = AreDueAfter now l.clock ⊎ (now ≡ l.tick)

-- no device acts in the next m steps
pub record IsQuietFor (m : ℕ) (k : Kernel) : Type 0 where
  -- nothing is printed
  pub output : k.lists.output ≡ []
  -- no byte meets a packet
  pub keyboard : (k.lists.keyboard ≡ []) ⊎ (k.type_ahead ≡ [])
  -- no key comes
  pub keys : ComeAfter (k.steps + m) k.keys
  -- no packet is returned by the clock
  pub clock : AwaitsTick ((k.steps + m) / k.lists.period) k.lists

-- the kernel with the whole periods of its steps as its ticks
abbrev pub with_ticks : Kernel → Kernel
with_ticks k = record k { lists = with_tick (k.steps / k.lists.period) k.lists }

-- the kernel after m steps in which nothing happens
abbrev pub passed : ℕ → Kernel → Kernel
passed m k = with_ticks (record k { steps = k.steps + m })

-- ---- a guest's instruction

-- what the running guest's next instruction does, where it may write no word of the kernel
abbrev pub instruction_of : Kernel → After
instruction_of k = instruction (is_owned k.lists) (image k) k.regs

-- the kernel with the words and registers that it leaves
abbrev pub after_instruction_of : Kernel → Kernel
after_instruction_of k = record (with_store (instruction_of k).words k.lists k) { regs = (instruction_of k).regs }
