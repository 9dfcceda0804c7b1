-- A resident returns a request, and ends its turn.
use Rattle.std.specs.Prelude.{◌≡◌, ℕ, ◌+◌, Result, Ok, Err, List, [], ◌∷◌}
use Rattle.std.specs.List.{range_with_len}
use Rattle.word_store.specs.Arithmetic.{signed}
use Rattle.word_store.specs.Count.{times}
use Rattle.kernel_lists.specs.OwnedWords.Owned.{owners}
use Rattle.kernel_lists.specs.PacketQueue.QueueWords.{QueuedPacket}
use Rattle.kernel_lists.specs.declared.packet_queue.events.KernelEvent.TheVariants.{Accepted}
use Rattle.kernel_model.specs.KernelRecord.ChangedStore.{IsChanged}
use Rattle.kernel_model.specs.KernelRecord.Changes.{with_task}
use Rattle.kernel_model.specs.KernelRecord.Lists.{Lists}
use Rattle.kernel_model.specs.KernelRecord.Owned.{owned}
use Rattle.kernel_model.specs.KernelRecord.ValidQueues.Place.{Work}
use Rattle.kernel_calls.specs.CallAnswers.CallChange.{CallChange, minus_one}
use Rattle.kernel_calls.specs.PacketCalls.PacketMoves.{with_arrived}
use Rattle.kernel_calls.specs.PacketCalls.TaskWait.{waiting}
use Rattle.kernel_model.specs.declared.kernel_record.numbers.TheConstants.{PACKET_WORDS}
use Rattle.resident_tasks.specs.ResidentRequests.Requests.{work}
use Rattle.resident_tasks.specs.declared.resident_requests.requests.Request.{Request}

-- the first result of a request: its answer where it is accepted, -1 where it is refused
abbrev pub res1_of : Result ℕ ℕ → ℕ
res1_of (Ok answer) = answer
res1_of (Err code) = minus_one

-- the second result: 0 where it is accepted, the code where it is refused
abbrev pub res2_of : Result ℕ ℕ → ℕ
res2_of (Ok answer) = 0
res2_of (Err code) = code

-- the packet with this answer, from the resident that runs
abbrev pub answered_packet : Lists → Request → Result ℕ ℕ → QueuedPacket
answered_packet l r answer = record { address = r.packet; sender = l.running; kind = r.kind; res1 = res1_of answer; last = res2_of answer }

-- a request comes to the end of its sender's work queue, with its answer
abbrev pub returned : Lists → Request → Result ℕ ℕ → CallChange
returned l r answer = record {
  answer = Ok minus_one;
  lists = with_arrived (Work r.sender) (answered_packet l r answer) l;
  plain = [];
  events = Accepted (signed r.sender) r.packet (signed l.running) ∷ [];
}

-- the five words of the request are owned besides
abbrev pub OwnsRequest : Lists → Lists → Request → Type 0
OwnsRequest l m r = (a : ℕ) → owners a (owned m) ≡ owners a (owned l) + times a (range_with_len r.packet PACKET_WORDS)

-- After its turn a resident waits where it has no packets, and still runs where it has some.
abbrev pub finished_by : List QueuedPacket → Lists → Lists
finished_by [] l = with_task l.running waiting l
finished_by (p ∷ ps) l = l

-- the lists once the running task, a resident, has ended its turn
abbrev pub finished : Lists → Lists
finished l = finished_by (work l) l

-- the store holds these lists then, and the same words are owned
pub record IsFinished (s t : List ℕ) (l : Lists) : Type 0 where
  -- the store holds these lists, and no plain word has changed
  pub lists : IsChanged s t (finished l) []
  -- the same words are owned
  pub same : (a : ℕ) → owners a (owned (finished l)) ≡ owners a (owned l)

-- the request is returned, and the turn ends
abbrev pub answered : Lists → Request → Result ℕ ℕ → CallChange
answered l r answer = record (returned l r answer) { lists = finished (returned l r answer).lists }
