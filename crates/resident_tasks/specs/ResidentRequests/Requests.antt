-- A resident takes a request: its first packet, which is then on no queue.
use Rattle.std.specs.Prelude.{◌≡◌, ℕ, ◌+◌, Option, Some, None, true, false, IfSome, List, [], ◌∷◌, slice_index}
use Rattle.word_store.specs.Arithmetic.{signed}
use Rattle.kernel_lists.specs.PacketQueue.Queue.{no_queue}
use Rattle.kernel_lists.specs.PacketQueue.QueueWords.{QueuedPacket}
use Rattle.kernel_lists.specs.declared.packet_queue.events.KernelEvent.TheVariants.{Taken}
use Rattle.kernel_model.specs.KernelRecord.ChangedStore.{IsChanged, Knows}
use Rattle.kernel_model.specs.KernelRecord.Changes.{AreUnowned, queue_of, with_queue}
use Rattle.kernel_model.specs.KernelRecord.KernelChange.{KernelChange}
use Rattle.kernel_model.specs.KernelRecord.Lists.{Lists, has_task}
use Rattle.kernel_model.specs.KernelRecord.Running.{RunsAlive}
use Rattle.kernel_model.specs.KernelRecord.Task.{is_guest_id}
use Rattle.kernel_model.specs.KernelRecord.ValidBlocks.{AreData}
use Rattle.kernel_model.specs.KernelRecord.ValidQueues.{is_fault_packet, is_key_packet}
use Rattle.kernel_model.specs.KernelRecord.ValidQueues.Place.{Work}
use Rattle.kernel_calls.specs.PacketCalls.Destinations.{queue_for}
use Rattle.kernel_calls.specs.PacketCalls.QueueWords.{unqueued}
use Rattle.kernel_model.specs.declared.kernel_record.numbers.TheConstants.{FIRST, KIND, PACKET_WORDS, SECOND, SENDER, THIRD}
use Rattle.resident_tasks.specs.declared.resident_requests.requests.Request.{Request}

-- a resident runs, and its state says so
pub record RunsResident (l : Lists) : Type 0 where
  -- the running task is a resident
  pub resident : is_guest_id l.running ≡ false
  -- it is there
  pub there : has_task l.running l.tasks ≡ true
  -- its field is that of one that runs
  pub field : RunsAlive l

-- the packets on the work queue of the running task
abbrev pub work : Lists → List QueuedPacket
work l = queue_of (Work l.running) l

-- the first one is none of the residents' own
abbrev pub IsForeign : Lists → List QueuedPacket → Type 0
IsForeign l [] = Unit {0}
IsForeign l (p ∷ ps) = (is_key_packet l p ≡ false) × (is_fault_packet l p ≡ false)

-- a resident runs that may take a request
pub record TakesRequest (l : Lists) : Type 0 where
  -- a resident runs
  pub runs : RunsResident l
  -- its first packet is none of the residents' own
  pub foreign : IsForeign l (work l)

-- ---- what taking leaves

-- the running task takes the first of these packets from its work queue
abbrev pub taken_from : List QueuedPacket → Lists → KernelChange
taken_from [] l = record { lists = l; plain = []; events = [] }
taken_from (p ∷ ps) l = record {
  lists = with_queue (Work l.running) ps l;
  plain = (p.address, no_queue) ∷ [];
  events = Taken (signed l.running) p.address (signed p.sender) ∷ [];
}

-- the running task takes its first packet
abbrev pub taken : Lists → KernelChange
taken l = taken_from (work l) l

-- the store then: what a handler reads, it reads of this one
abbrev pub words_taken_from : List QueuedPacket → List ℕ → Lists → List ℕ
words_taken_from [] s l = s
words_taken_from (p ∷ ps) s l = unqueued s (queue_for l (Work l.running)) p.address

-- the store once the running task has taken its first packet
abbrev pub words_taken : List ℕ → Lists → List ℕ
words_taken s l = words_taken_from (work l) s l

-- the request of the packet at p, whose words 5, 6 and 7 are the arguments; outside the store these are 0
abbrev pub request_at : List ℕ → ℕ → Request
request_at s p = record {
  packet = p;
  sender = slice_index s (p + SENDER);
  kind = slice_index s (p + KIND);
  first = slice_index s (p + FIRST);
  second = slice_index s (p + SECOND);
  third = slice_index s (p + THIRD);
}

-- the request of the first of these packets
abbrev pub first_request : List ℕ → List QueuedPacket → Option Request
first_request s [] = None
first_request s (p ∷ ps) = Some (request_at s p.address)

-- The request was taken: its packet lies in the data of one used block, nobody owns its words, and its sender is there.
pub record HasRequest (s : List ℕ) (l : Lists) (r : Request) : Type 0 where
  -- the packet has the sender's number
  pub sender : slice_index s (r.packet + SENDER) ≡ r.sender
  -- it has the type
  pub kind : slice_index s (r.packet + KIND) ≡ r.kind
  -- the sender is there
  pub there : has_task r.sender l.tasks ≡ true
  -- the packet's words are data of one used block
  pub lodged : AreData l.blocks r.packet PACKET_WORDS
  -- nobody owns them
  pub plain : AreUnowned l r.packet (r.packet + PACKET_WORDS)

-- From the store s the store t has become one in which the request was taken: its lists, the words that the keeper knows, and all
-- its words.
pub record IsTaken (s t : List ℕ) (tells : List ℕ → Type 0) (l : Lists) (result : Option Request) : Type 0 where
  -- the store holds the lists that taking leaves
  pub lists : IsChanged s t (taken l).lists (taken l).plain
  -- the keeper knows their words
  pub knows : Knows tells (taken l).lists
  -- these are all words of the store
  pub words : t ≡ words_taken s l
  -- the resident still runs
  pub runs : RunsResident (taken l).lists
  -- it is the request of the first packet
  pub request : result ≡ first_request t (work l)
  -- its packet is in the store
  pub has_request : IfSome result (λ r. HasRequest t (taken l).lists r)
