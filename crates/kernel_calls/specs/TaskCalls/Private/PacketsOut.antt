-- Whose packets residents and devices have, as the words of a store say.
use Rattle.std.specs.Prelude.{ℕ, ◌+◌, ◌==◌, ◌||◌, Bool, false, if◌then◌else◌, List, slice_index}
use Rattle.std.specs.List.{list_any}
use Rattle.kernel_lists.specs.PacketQueue.Queue.{queue_at}
use Rattle.kernel_lists.specs.TaskBlock.TaskChain.{id_in, tasks_in}
use Rattle.kernel_model.specs.KernelRecord.KernelRanges.{has_residents}
use Rattle.kernel_model.specs.KernelRecord.Owned.{clock_head, keyboard_head, output_head}
use Rattle.kernel_model.specs.KernelRecord.Residents.{pending_head}
use Rattle.kernel_model.specs.KernelRecord.Task.{is_guest_id, queue_head}

-- a packet that is queued at the head is from the task with the number
abbrev pub is_sender_at : List ℕ → ℕ → ℕ → Bool
is_sender_at s head id = list_any (λ p. slice_index s (p + 1) == id) (queue_at s head)

-- a packet on the work queue of the task at t is from the task with the number, where the task at t is a resident
abbrev pub is_sender_to : List ℕ → ℕ → ℕ → Bool
is_sender_to s id t = if is_guest_id (id_in s t) then false else is_sender_at s (queue_head t) id

-- a packet on the work queue of any resident is from the task with the number
abbrev pub is_sender_to_residents : List ℕ → ℕ → Bool
is_sender_to_residents s id = list_any (is_sender_to s id) (tasks_in s)

-- a read that waits for a line is from the task with the number
abbrev pub is_sender_of_read : List ℕ → ℕ → Bool
is_sender_of_read s id = if has_residents s then is_sender_at s pending_head id else false

-- a packet at the clock, the keyboard or the output is from the task with the number
abbrev pub is_sender_at_device : List ℕ → ℕ → Bool
is_sender_at_device s id = is_sender_at s clock_head id || (is_sender_at s keyboard_head id || is_sender_at s output_head id)

-- a resident, a device or the console has a packet from the task with the number
abbrev pub is_sender_out : List ℕ → ℕ → Bool
is_sender_out s id = is_sender_to_residents s id || (is_sender_at_device s id || is_sender_of_read s id)
