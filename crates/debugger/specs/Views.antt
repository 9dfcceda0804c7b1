-- What is looked at in a machine of either kind.
use Rattle.std.specs.Prelude.{ℕ, ◌≡◌, ◌==◌, ◌&&◌, ◌||◌, Bool, true, not, if◌then◌else◌, is_some, Option, Some, None, List, [], ◌∷◌}
use Rattle.instruction_set.specs.Breakpoints.{has_breakpoint}
use Rattle.kernel_model.specs.KernelRecord.Lists.{Lists}
use Rattle.kernel_model.specs.KernelRecord.Task.{Task, is_guest_id}
use Rattle.kernel_model.specs.KernelRecord.Recovered.{packets_at}
use Rattle.kernel_calls.specs.PacketCalls.QueueWords.{head_of}
use Rattle.kernel_calls.specs.declared.packet_calls.queues.Queue.{Queue}
use Rattle.kernel_lists.specs.PacketQueue.Queue.{HasQueue}
use Rattle.kernel_lists.specs.PacketQueue.QueueWords.{QueuedPacket}
use Rattle.tripos_machine.specs.State.{State, regs_of, stop_of}
use Rattle.tripos_machine.specs.State.State.{Bare, Full}

-- whether a guest is the next to do something; on a machine without a kernel every instruction is a guest's
abbrev pub is_guest_next : State → Bool
is_guest_next (Bare m) = true
is_guest_next (Full k) = is_guest_id k.lists.running

-- whether its next instruction is at one of these addresses; at address 0 there is none
abbrev pub is_at : List ℕ → State → Bool
is_at stops s = is_guest_next s && not ((regs_of s).pc == 0) && has_breakpoint (regs_of s).pc stops

-- whether a run ends there: at a breakpoint, or as the machine has stopped
abbrev pub is_end : List ℕ → State → Bool
is_end stops s = is_some (stop_of s) || is_at stops s

-- the queue of the task with the number, if there is such a task
abbrev pub task_queue : ℕ → List Task → Option (List QueuedPacket)
task_queue id [] = None
task_queue id (t ∷ ts) = if t.id == id then Some t.queue else task_queue id ts

-- the queue of the device with the number, without its sign
abbrev pub device_queue : ℕ → Lists → Option (List QueuedPacket)
device_queue n l =
    if n == 1 then Some l.clock else
    if n == 2 then Some l.keyboard else
    if n == 3 then Some l.output else
    None

-- the queue is in the store with these packets, or there is none
abbrev pub Leads : List ℕ → Option Queue → Option (List QueuedPacket) → Type 0
Leads s None None = Unit {0}
Leads s (Some queue) (Some ps) = HasQueue s (head_of queue) × (packets_at s (head_of queue) ≡ ps)
Leads s _ _ = ⊥
