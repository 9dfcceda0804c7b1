-- The call that deletes a task.
use Rattle.std.specs.Prelude.{◌≡◌, ℕ, ◌==◌, ◌&&◌, Bool, not, None, if◌then◌else◌, List, [], ◌∷◌, ◌++◌, length}
use Rattle.std.specs.List.{flat_map, list_any}
use Rattle.kernel_lists.specs.LinkedList.Places.{without_first}
use Rattle.kernel_lists.specs.GetvecChain.Give.{given}
use Rattle.kernel_lists.specs.PacketQueue.QueueWords.{QueuedPacket}
use Rattle.kernel_model.specs.KernelRecord.Between.{is_empty_queue}
use Rattle.kernel_model.specs.KernelRecord.Changes.{with_blocks, with_tasks}
use Rattle.kernel_model.specs.KernelRecord.Lists.{Lists, address_of_task}
use Rattle.kernel_model.specs.KernelRecord.Running.{RunsAlive}
use Rattle.kernel_model.specs.KernelRecord.Task.{Task, is_guest_id}
use Rattle.kernel_calls.specs.CallAnswers.Guests.{GuestAt, guest_tests}
use Rattle.kernel_calls.specs.CallAnswers.CallChange.{CallChange, done, unless_refused}
use Rattle.kernel_calls.specs.CallAnswers.Refusals.{first_refusal}
use Rattle.kernel_calls.specs.CallAnswers.Tasks.{is_dead}
use Rattle.kernel_calls.specs.BlockCalls.Freevec.{has_packet_in}

-- whether the work queue of the task is empty
abbrev pub has_no_work : Lists → ℕ → Bool
has_no_work l id = list_any (λ t. (t.id == id) && is_empty_queue t.queue) l.tasks

-- whether the task has no coroutines
abbrev pub has_no_coroutines : Lists → ℕ → Bool
has_no_coroutines l id = list_any (λ t. (t.id == id) && (length t.coroutines.list == 0)) l.tasks

-- the packets on the work queue of a resident; a guest's are its own
abbrev pub resident_packets : Task → List QueuedPacket
resident_packets t = if is_guest_id t.id then [] else t.queue

-- the packets that residents and devices have, and the reads that wait for a line
abbrev pub packets_out : Lists → List QueuedPacket
packets_out l = flat_map resident_packets l.tasks ++ (l.clock ++ (l.keyboard ++ (l.output ++ l.pending)))

-- whether a resident or a device has a packet of the task with the number
abbrev pub has_packet_out : Lists → ℕ → Bool
has_packet_out l id = list_any (λ p. p.sender == id) (packets_out l)

-- the task is dead (code 11), its queue is empty (12), no packet of its own is out (13), and it has no coroutines (25)
abbrev pub end_tests : Lists → ℕ → List (Bool × ℕ)
end_tests l id = (is_dead l id, 11) ∷ (has_no_work l id, 12) ∷ (not (has_packet_out l id), 13) ∷ (has_no_coroutines l id, 25) ∷ []

-- and no packet lies in its block (7)
abbrev pub deletion_tests : Lists → ℕ → List (Bool × ℕ)
deletion_tests l id = end_tests l id ++ (not (has_packet_in l (address_of_task l id)), 7) ∷ []

-- the lists without the task with the number, with its block given back
abbrev pub without_task : Lists → ℕ → Lists
without_task l id = with_blocks (given (address_of_task l id) l.blocks) (with_tasks (without_first (λ t. t.id == id) l.tasks) l)

-- The guest with the number goes, and its block is given back, unless it is refused; the answer is -1.
abbrev pub delete_task : Lists → ℕ → CallChange
delete_task l id = unless_refused (guest_tests l id ++ deletion_tests l id) l (done (without_task l id))

-- the guest at the address has ended, and nothing of its own is left but its block
pub record HasEnded (l : Lists) (id address : ℕ) : Type 0 where
  -- the guest with the number
  pub guest : GuestAt l id address
  -- it may go
  pub accepted : first_refusal (end_tests l id) ≡ None
  -- the task that runs is not dead
  pub runs_alive : RunsAlive l
