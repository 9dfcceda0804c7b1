-- The call that takes a packet back out of a queue.
use Rattle.std.specs.Prelude.{ℕ, ◌+◌, ◌==◌, ◌||◌, Bool, if◌then◌else◌, not, find, is_some, Option, Some, None, Ok, List, [], ◌∷◌, ◌++◌}
use Rattle.word_store.specs.Arithmetic.{signed}
use Rattle.kernel_lists.specs.PacketQueue.Queue.{no_queue}
use Rattle.kernel_lists.specs.declared.packet_queue.events.KernelEvent.TheVariants.{Dequeued}
use Rattle.kernel_model.specs.KernelRecord.Changes.{queue_of}
use Rattle.kernel_model.specs.KernelRecord.Lists.{Lists}
use Rattle.kernel_model.specs.KernelRecord.ValidQueues.{Place, is_fault_at, is_key_at}
use Rattle.kernel_model.specs.KernelRecord.ValidQueues.Place.{Pending, Work}
use Rattle.kernel_calls.specs.CallAnswers.CallChange.{CallChange, done, unless_refused}
use Rattle.kernel_calls.specs.PacketCalls.Destinations.{is_destination, place_of, queue_for}
use Rattle.kernel_calls.specs.PacketCalls.PacketMoves.{is_on_queue, with_departed}
use Rattle.kernel_calls.specs.declared.packet_calls.dequeue.Found.{Found}

-- A queue that is searched: where it is, its number as events name it, and the answer where the packet is found in it.
pub record Search : Type 0 where
  -- where the queue is
  pub place : Place
  -- its number, as events name it
  pub number : ℕ
  -- what the call answers where the packet is there
  pub answer : ℕ

-- the number of the console's reads that wait for a line
abbrev pub pending_number : ℕ
pending_number = 103

-- where the number is the console's, the reads that wait for a line are searched too
abbrev pub further_searches : ℕ → List Search
further_searches id = if id == 3 then record { place = Pending; number = pending_number; answer = id } ∷ [] else []

-- the queue that the number names, those reads, and the queue of the task that calls, in this order
abbrev pub searches : Lists → ℕ → List Search
searches l id =
    record { place = place_of id; number = id; answer = id }
    ∷ (further_searches id ++ record { place = Work l.running; number = l.running; answer = l.running } ∷ [])

-- the first of these queues that has the packet
abbrev pub found_in : Lists → ℕ → ℕ → Option Search
found_in l id p = find (λ w. is_on_queue p (queue_of w.place l)) (searches l id)

-- the last search alone
abbrev pub found_in_own : Lists → ℕ → Option Search
found_in_own l p =
    if is_on_queue p (queue_of (Work l.running) l) then Some (record { place = Work l.running; number = l.running; answer = l.running }) else None

-- a search, as the code has it
abbrev pub located : Lists → Search → Found
located l w = record { queue = queue_for l w.place; number = w.number; answer = w.answer }

-- the packet is the console's key packet, or that of the task that reports faults
abbrev pub is_residents_packet : Lists → ℕ → Bool
is_residents_packet l p = is_key_at l p || is_fault_at l p

-- the number names a task or a device (code 4), one of the queues has the packet (code 19), which is none of the residents' own
-- (code 14)
abbrev pub dqpkt_tests : Lists → ℕ → ℕ → List (Bool × ℕ)
dqpkt_tests l id p = (is_destination l id, 4) ∷ (is_some (found_in l id p), 19) ∷ (not (is_residents_packet l p), 14) ∷ []

-- Where a queue has it: the packet is on no queue then, and its word 1 is the answer. Where none has it, the call is refused.
abbrev pub dequeued : ℕ → Option Search → Lists → CallChange
dequeued p None l = done l
dequeued p (Some w) l = record {
  answer = Ok w.answer;
  lists = with_departed p w.place l;
  plain = (p + 1, w.answer) ∷ (p, no_queue) ∷ [];
  events = Dequeued (signed w.number) p ∷ [];
}

-- The packet at p goes out of the queue that `id` names, or else out of that of the running task, unless it is refused.
abbrev pub dqpkt : Lists → ℕ → ℕ → CallChange
dqpkt l id p = unless_refused (dqpkt_tests l id p) l (dequeued p (found_in l id p) l)
