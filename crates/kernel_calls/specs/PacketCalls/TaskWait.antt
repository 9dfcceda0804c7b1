-- The call by which a task takes its first packet, or waits for one.
use Rattle.std.specs.Prelude.{ℕ, Option, Some, None, Result, Ok, List, [], ◌∷◌}
use Rattle.word_store.specs.Arithmetic.{signed}
use Rattle.kernel_lists.specs.PacketQueue.Queue.{no_queue}
use Rattle.kernel_lists.specs.PacketQueue.QueueWords.{QueuedPacket}
use Rattle.kernel_lists.specs.declared.packet_queue.events.KernelEvent.TheVariants.{Taken}
use Rattle.kernel_model.specs.KernelRecord.Changes.{queue_of, with_queue, with_task}
use Rattle.kernel_model.specs.KernelRecord.Lists.{Lists}
use Rattle.kernel_model.specs.KernelRecord.Task.{Task}
use Rattle.kernel_model.specs.KernelRecord.ValidQueues.Place.{Work}
use Rattle.kernel_model.specs.KernelRecord.ValidTasks.{waits}
use Rattle.kernel_calls.specs.CallAnswers.CallChange.{CallChange}

-- a task that waits for a packet
abbrev pub waiting : Task → Task
waiting t = record t { field = waits }

-- the packet that the task takes is its first, if it has one
abbrev pub first_of_queue : List QueuedPacket → Option ℕ
first_of_queue [] = None
first_of_queue (p ∷ ps) = Some p.address

-- a task that waits has no answer yet: 0, which is no packet
abbrev pub answer_of_wait : Option ℕ → Result ℕ ℕ
answer_of_wait None = Ok 0
answer_of_wait (Some p) = Ok p

-- Where its queue is this: it takes the first packet, which is then on no queue, or it waits.
abbrev pub waited : List QueuedPacket → Lists → CallChange
waited [] l = record { answer = Ok 0; lists = with_task l.running waiting l; plain = []; events = [] }
waited (p ∷ ps) l = record {
  answer = Ok p.address;
  lists = with_queue (Work l.running) ps l;
  plain = (p.address, no_queue) ∷ [];
  events = Taken (signed l.running) p.address (signed p.sender) ∷ [];
}

-- The running task takes its first packet, or waits for one.
abbrev pub taskwait : Lists → CallChange
taskwait l = waited (queue_of (Work l.running) l) l
