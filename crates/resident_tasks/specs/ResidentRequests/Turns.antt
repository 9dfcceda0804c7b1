-- What a resident's turn leaves.
use Rattle.std.specs.Prelude.{◌≡◌, ◌⊎◌, ℕ, ◌≤◌, true, Option, Some, None, Result, List, [], ◌++◌, length}
use Rattle.kernel_lists.specs.OwnedWords.Owned.{Pairs}
use Rattle.kernel_lists.specs.declared.packet_queue.events.KernelEvent.{KernelEvent}
use Rattle.kernel_model.specs.KernelRecord.ChangedStore.{IsChanged, Knows}
use Rattle.kernel_model.specs.KernelRecord.Lists.{Lists}
use Rattle.kernel_model.specs.KernelRecord.NotedEvents.{NotesAll}
use Rattle.kernel_calls.specs.CallAnswers.Outside.{Outside}
use Rattle.resident_tasks.specs.ResidentRequests.Answers.{OwnsRequest, answered, finished}
use Rattle.resident_tasks.specs.ResidentRequests.Buffers.{is_writable, written_buffer}
use Rattle.resident_tasks.specs.ResidentRequests.Requests.{HasRequest, first_request, taken, words_taken, work}
use Rattle.resident_tasks.specs.declared.resident_requests.requests.Request.{Request}

-- What a resident's turn leaves: the words as they were before it, the parts of a KernelChange of these, and the bytes that went to the
-- console.
pub record ResidentTurn : Type 0 where
  -- the words of the store when the request was taken
  pub words : List ℕ
  -- the lists
  pub lists : Lists
  -- the plain words that were written
  pub plain : Pairs
  -- the events, in their order
  pub events : List KernelEvent
  -- the bytes that went to the console
  pub bytes : List ℕ

-- The store is t: it holds the lists that the turn leaves, and of the other words its plain ones have changed; the keeper knows the
-- words of those lists; its bytes went to the console, and its events to the log.
pub record IsResidentTurn (t : List ℕ) (tells : List ℕ → Type 0) (old new : Outside) (m : ResidentTurn) : Type 0 where
  -- the store holds these lists, and these plain words alone have changed
  pub lists : IsChanged m.words t m.lists m.plain
  -- the keeper knows the words of the lists
  pub knows : Knows tells m.lists
  -- its bytes went to the console
  pub bytes : new.shown ≡ old.shown ++ m.bytes
  -- its events went to the log
  pub notes : NotesAll old.noted new.noted old.failed new.failed m.events

-- These bytes were written into a buffer from word a on: the store holds the same lists, of the other words only those of the
-- buffer have changed, and the request is as it was.
pub record HasWritten (s t : List ℕ) (l : Lists) (r : Request) (a : ℕ) (bytes : List ℕ) : Type 0 where
  -- the store holds the lists, and the words of the buffer alone have changed
  pub lists : IsChanged s t l (written_buffer s a bytes)
  -- the request is as before
  pub has_request : HasRequest t l r

-- ---- a turn in which a request is answered

-- What a handler makes of a request: its answer, and bytes that it writes into a buffer from a word on. Where it writes none it has
-- no bytes.
pub record Served : Type 0 where
  -- its first result, or the code of the refusal
  pub answer : Result ℕ ℕ
  -- the address of the buffer, in words
  pub at : ℕ
  -- the bytes that go into it, from its first
  pub bytes : List ℕ

-- a handler gives this answer, and these bytes for the buffer at a word
abbrev pub service : Result ℕ ℕ → ℕ → List ℕ → Served
service answer at bytes = record { answer = answer; at = at; bytes = bytes }

-- it has no bytes, or the buffer has room for them and may be written
abbrev pub CanServe : List ℕ → Lists → Request → Served → Type 0
CanServe s l r w = (w.bytes ≡ []) ⊎ ((n : ℕ) × (is_writable s l r.packet w.at n ≡ true) × (length w.bytes ≤ n))

-- From the store s the store t has become one in which that was done: it holds the lists with the request answered, of the other
-- words only those of the bytes have changed, and the keeper knows the words of those lists.
pub record IsServed (s t : List ℕ) (tells : List ℕ → Type 0) (l : Lists) (r : Request) (w : Served) : Type 0 where
  -- the store holds these lists, and the words of the buffer alone have changed
  pub lists : IsChanged s t (answered l r w.answer).lists (written_buffer s w.at w.bytes)
  -- the keeper knows the words of the lists
  pub knows : Knows tells (answered l r w.answer).lists
  -- the kernel owns the packet's words again
  pub owns : OwnsRequest l (answered l r w.answer).lists r

-- the request was taken, the bytes were written, and the request was returned with the answer
abbrev pub served_turn : List ℕ → Lists → Request → Served → ResidentTurn
served_turn s l r w = record {
  words = s;
  lists = (answered (taken l).lists r w.answer).lists;
  plain = written_buffer (words_taken s l) w.at w.bytes;
  bytes = [];
  events = (taken l).events ++ (answered (taken l).lists r w.answer).events;
}

-- where there is no request the resident only waits
abbrev pub idle_turn : List ℕ → Lists → ResidentTurn
idle_turn s l = record { words = s; lists = finished l; plain = []; bytes = []; events = [] }

-- The turn of a handler that makes this of a request, which it reads in the words and the lists that taking leaves.
abbrev pub turn_of : Option Request → (Request → Served) → List ℕ → Lists → ResidentTurn
turn_of None serve s l = idle_turn s l
turn_of (Some r) serve s l = served_turn s l r (serve r)

-- the turn of a handler that serves its requests so: it takes the first one and answers it
abbrev pub request_turn : (List ℕ → Lists → Request → Served) → List ℕ → Lists → ResidentTurn
request_turn serve s l = turn_of (first_request (words_taken s l) (work l)) (serve (words_taken s l) (taken l).lists) s l
