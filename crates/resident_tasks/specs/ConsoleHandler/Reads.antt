-- The reads that wait for a line, in the order in which they came.
use Rattle.std.specs.Prelude.{◌≡◌, ℕ, Option, IfSome, Ok, List, [], ◌∷◌}
use Rattle.word_store.specs.Arithmetic.{signed}
use Rattle.kernel_lists.specs.PacketQueue.Queue.{no_queue}
use Rattle.kernel_lists.specs.PacketQueue.QueueWords.{QueuedPacket}
use Rattle.kernel_lists.specs.declared.packet_queue.events.KernelEvent.TheVariants.{Accepted, Taken}
use Rattle.kernel_model.specs.KernelRecord.ChangedStore.{IsChanged, Knows}
use Rattle.kernel_model.specs.KernelRecord.Changes.{with_queue}
use Rattle.kernel_model.specs.KernelRecord.KernelChange.{KernelChange}
use Rattle.kernel_model.specs.KernelRecord.Lists.{Lists}
use Rattle.kernel_model.specs.KernelRecord.ValidQueues.Place.{Pending}
use Rattle.kernel_calls.specs.CallAnswers.CallChange.{CallChange, minus_one}
use Rattle.kernel_calls.specs.PacketCalls.PacketMoves.{sent_packet, with_arrived}
use Rattle.kernel_calls.specs.PacketCalls.QueueWords.{unqueued}
use Rattle.kernel_calls.specs.declared.packet_calls.queues.Queue.TheVariants as queues
use Rattle.resident_tasks.specs.ResidentRequests.Answers.{OwnsRequest}
use Rattle.resident_tasks.specs.ResidentRequests.Requests.{HasRequest, first_request}
use Rattle.resident_tasks.specs.declared.resident_requests.requests.Request.{Request}
use Rattle.kernel_model.specs.declared.kernel_record.numbers.TheConstants.{PENDING}

-- ---- a read comes

-- a read that was taken is put at the end of those that wait for a line
abbrev pub put_off : List ℕ → Lists → Request → CallChange
put_off s l r = record {
  answer = Ok minus_one;
  lists = with_arrived Pending (sent_packet s l Pending r.packet r.sender) l;
  plain = [];
  events = Accepted (signed PENDING) r.packet (signed r.sender) ∷ [];
}

-- ---- the first read goes

-- The first of these reads is taken, and is then on no queue; without one nothing is done.
abbrev pub read_taken_from : List QueuedPacket → Lists → KernelChange
read_taken_from [] l = record { lists = l; plain = []; events = [] }
read_taken_from (p ∷ ps) l = record {
  lists = with_queue Pending ps l;
  plain = (p.address, no_queue) ∷ [];
  events = Taken (signed PENDING) p.address (signed p.sender) ∷ [];
}

-- the first read that waits is taken
abbrev pub read_taken : Lists → KernelChange
read_taken l = read_taken_from l.pending l

-- the store then
abbrev pub words_read_from : List QueuedPacket → List ℕ → List ℕ
words_read_from [] s = s
words_read_from (p ∷ ps) s = unqueued s queues.Pending p.address

-- From the store s the store t has become one in which the first read was taken.
pub record IsReadTaken (s t : List ℕ) (tells : List ℕ → Type 0) (l : Lists) (result : Option Request) : Type 0 where
  -- the store holds the lists that taking leaves
  pub lists : IsChanged s t (read_taken l).lists (read_taken l).plain
  -- the keeper knows their words
  pub knows : Knows tells (read_taken l).lists
  -- these are all words of the store
  pub words : t ≡ words_read_from l.pending s
  -- it is the first read that waited
  pub request : result ≡ first_request t l.pending
  -- its packet is in the store
  pub has_request : IfSome result (λ r. HasRequest t (read_taken l).lists r)
  -- the kernel owned its words before
  pub owns : IfSome result (λ r. OwnsRequest (read_taken l).lists l r)
