-- The console's key packet, which comes back from the keyboard with a key as its first result.
use Rattle.std.specs.Prelude.{◌≡◌, true, Some, Ok, List, [], ◌∷◌}
use Rattle.word_store.specs.Arithmetic.{signed}
use Rattle.kernel_lists.specs.PacketQueue.QueueWords.{QueuedPacket}
use Rattle.kernel_lists.specs.declared.packet_queue.events.KernelEvent.TheVariants.{Taken}
use Rattle.kernel_model.specs.KernelRecord.Changes.{with_key, with_queue}
use Rattle.kernel_model.specs.KernelRecord.Lists.{Lists}
use Rattle.kernel_model.specs.KernelRecord.ValidQueues.{is_key_packet}
use Rattle.kernel_model.specs.KernelRecord.ValidQueues.Place.{Work}
use Rattle.kernel_calls.specs.CallAnswers.CallChange.{CallChange, done}
use Rattle.resident_tasks.specs.ResidentRequests.Requests.{RunsResident, work}

-- the first packet of the queue is the key packet
abbrev pub StartsWithKeys : Lists → List QueuedPacket → Type 0
StartsWithKeys l [] = ⊥
StartsWithKeys l (p ∷ ps) = is_key_packet l p ≡ true

-- the resident that runs has the key packet as its first
pub record FindsKeys (l : Lists) : Type 0 where
  -- a resident runs
  pub runs : RunsResident l
  -- its first packet is the key packet
  pub first : StartsWithKeys l (work l)

-- The key packet, first of these, is taken, and then on no queue. The answer is its key.
abbrev pub keys_taken_from : List QueuedPacket → Lists → CallChange
keys_taken_from [] l = done l
keys_taken_from (p ∷ ps) l = record {
  answer = Ok p.res1;
  lists = with_key (Some p.res1) (with_queue (Work l.running) ps l);
  plain = [];
  events = Taken (signed l.running) p.address (signed p.sender) ∷ [];
}

-- the running task takes the key packet
abbrev pub keys_taken : Lists → CallChange
keys_taken l = keys_taken_from (work l) l
