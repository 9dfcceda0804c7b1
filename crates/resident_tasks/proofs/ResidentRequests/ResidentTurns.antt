-- The parts of a resident's turn, one after the other.
use Rattle.std.proofs.Common.{◌≡◌, ◌≢◌, ℕ, ◌+◌, ◌≤◌, Bool, Option, Some, None, Ok, List, [], ◌∷◌, ◌++◌, append-nil, get_or, set, length, inl, inr, sym, ap, ◌∙◌, subst, arith, get_or-set_other, get_or-set_same}
use Rattle.std.specs.List.{AllByRecursion, range_with_len}
use Rattle.std.proofs.lemmas.Bool.{cases_eq, cases_lt, false_from_ne_true}
use Rattle.std.proofs.Math.Seq.{set_out}
use Rattle.word_store.specs.Count.{times}
use Rattle.word_store.proofs.Counts.{times-within}
use Rattle.kernel_lists.specs.OwnedWords.Owned.{Pairs, owners, written}
use Rattle.kernel_lists.proofs.OwnedWords.OwnedWords.{length-written}
use Rattle.kernel_lists.specs.PacketQueue.Queue.{no_queue}
use Rattle.kernel_lists.specs.PacketQueue.QueueWords.{QueuedPacket}
use Rattle.kernel_model.specs.KernelRecord.ChangedStore.{HasKeeper, IsChanged, Knows}
use Rattle.kernel_model.specs.KernelRecord.Lists.{Lists}
use Rattle.kernel_model.specs.KernelRecord.Owned.{owned}
use Rattle.kernel_model.specs.KernelRecord.ValidLists.{AreValid}
use Rattle.kernel_model.specs.KernelRecord.ValidQueues.{IsFaultPacket, IsKeyPacket, IsValidPacket, Place, is_fault_packet, is_key_packet}
use Rattle.kernel_model.specs.KernelRecord.ValidQueues.Place.{Clock, Keyboard, Output, Pending, Work}
use Rattle.kernel_model.proofs.KernelRecord.QueuePlaces.{valid-at-place}
use Rattle.kernel_calls.specs.CallAnswers.CallChange.{IsMade, minus_one}
use Rattle.kernel_calls.specs.CallAnswers.Outside.{outside}
use Rattle.kernel_model.proofs.KernelRecord.ChangedLists.{changed-none, changed-then, knows-same}
use Rattle.kernel_model.specs.KernelRecord.HoldsLists.{HoldsLists}
use Rattle.kernel_model.specs.KernelRecord.NotedEvents.{NotesAll}
use Rattle.kernel_model.proofs.KernelRecord.NotedInTurn.{notes-then}
use Rattle.kernel_lists.specs.declared.packet_queue.events.KernelEvent.{KernelEvent}
use Rattle.resident_tasks.specs.ResidentRequests.Answers.{IsFinished, OwnsRequest, answered, finished}
use Rattle.resident_tasks.specs.ResidentRequests.Buffers.{with_bytes, written_buffer}
use Rattle.resident_tasks.specs.ResidentRequests.Requests.{HasRequest, IsForeign, IsTaken, RunsResident, TakesRequest, first_request, request_at, taken, taken_from, words_taken, words_taken_from, work}
use Rattle.resident_tasks.specs.ResidentRequests.Turns.{CanServe, HasWritten, IsResidentTurn, IsServed, ResidentTurn, Served, request_turn, turn_of}
use Rattle.resident_tasks.specs.declared.resident_requests.requests.Request.{Request}
use Rattle.resident_tasks.proofs.ResidentRequests.WrittenBuffer.{has-written, writable-free}

-- ---- who may take requests

abbrev number_in : Place → ℕ
number_in (Work id) = id
number_in Clock = 0
number_in Keyboard = 0
number_in Output = 0
number_in Pending = 0

-- the residents' own packets come to the console and to the reporter of faults alone
pub takes-request : (l : Lists) → AreValid l → RunsResident l → l.running ≢ 2 → l.running ≢ 3 → TakesRequest l
takes-request l v r not_reporter not_console = record { runs = r; foreign = on (work l) (valid-at-place l (Work l.running) v r.there) }
  where
    on : (ps : List QueuedPacket) → AllByRecursion (IsValidPacket l (Work l.running)) ps → IsForeign l ps
    on [] valid-packets = tt
    on (p ∷ ps) valid-packets = (
      false_from_ne_true (is_key_packet l p) (λ e. (let i : IsKeyPacket (Work l.running) p = valid-packets.0.key e in not_console i.place.0)),
      false_from_ne_true (is_fault_packet l p) (λ e. (let i : IsFaultPacket (Work l.running) p = valid-packets.0.fault e in not_reporter (ap number_in i.place))),
    )

-- ---- the keeper

-- it knows the words of the lists that a part leaves, and has room for them
pub keeper-after : (s t : List ℕ) (tells told : List ℕ → Type 0) (room : ℕ) (l m : Lists) (plain : Pairs) → HasKeeper s tells room l → IsChanged s t m plain → Knows told m → HasKeeper t told room m
keeper-after s t tells told room l m plain k x knows = record { lists = x.lists; knows = knows; enough = subst (λ n. n ≤ room) (sym x.size) k.enough }

-- it does once a request was taken
pub keeper-taken : (s t : List ℕ) (tells told : List ℕ → Type 0) (room after : ℕ) (l : Lists) (result : Option Request) → HasKeeper s tells room l → IsTaken s t told l result → after ≡ room
    → HasKeeper t told after (taken l).lists
keeper-taken s t tells told room after l result k x same =
    subst (λ n. HasKeeper t told n (taken l).lists) (sym same) (keeper-after s t tells told room l (taken l).lists (taken l).plain k x.lists x.knows)

-- ---- the whole turn

-- the same words are written over two stores that have the same word at an address
pub written-same : (ws : Pairs) (s t : List ℕ) (a : ℕ) → length t ≡ length s → get_or t a 0 ≡ get_or s a 0 → get_or (written ws t) a 0 ≡ get_or (written ws s) a 0
written-same [] s t a long same = same
written-same (e ∷ es) s t a long same =
    elim (cases_eq a e.0) [
      | inl is ↦
          elim (cases_lt e.0 (length s)) [
            | inl inside ↦
                ap (λ z. get_or (set (written es t) e.0 e.1) z 0) is
                ∙ (get_or-set_same (written es t) e.0 e.1 0 (omega (arith, inside, long, length-written es t))
                ∙ (sym (get_or-set_same (written es s) e.0 e.1 0 (omega (arith, inside, length-written es s))) ∙ ap (λ z. get_or (set (written es s) e.0 e.1) z 0) (sym is)))
            | inr outside ↦
                ap (λ z. get_or z a 0) (set_out (written es t) e.0 e.1 (omega (arith, outside, long, length-written es t)))
                ∙ (written-same es s t a long same ∙ sym (ap (λ z. get_or z a 0) (set_out (written es s) e.0 e.1 (omega (arith, outside, length-written es s)))))
          ]
      | inr ne ↦ get_or-set_other (written es t) e.0 a e.1 0 ne ∙ (written-same es s t a long same ∙ sym (get_or-set_other (written es s) e.0 a e.1 0 ne))
    ]

-- A request was taken, and then plain words were written and its packet came into a queue again: of the words that nobody owns
-- then, only the plain ones have changed.
pub turn-changed : (s t v : List ℕ) (m z : Lists) (p : ℕ) (plain : Pairs) → IsChanged s t m ((p, no_queue) ∷ []) → IsChanged t v z plain
    → ((a : ℕ) → owners a (owned z) ≡ owners a (owned m) + times a (range_with_len p 5)) → IsChanged s v z plain
turn-changed s t v m z p plain x y more =
    record {
      lists = y.lists;
      size = y.size ∙ x.size;
      written =
          record {
            holds = y.written.holds;
            others = λ a none.
                let free : owners a (owned m) ≡ 0 = omega (arith, more a, none) in
                let beside : a ≢ p = λ e. absurd (omega (arith, more a, none, times-within a p 5 (omega (arith, e)) (omega (arith, e)))) in
                y.written.others a none ∙ written-same plain s t a x.size (x.written.others a free ∙ get_or-set_other s p a no_queue 0 beside);
          };
    }

-- ---- a request is served

-- the bytes were written
pub bytes-written : (s : List ℕ) (l : Lists) (r : Request) (w : Served) → HoldsLists s l → HasRequest s l r → CanServe s l r w → HasWritten s (with_bytes s w.at 0 w.bytes) l r w.at w.bytes
bytes-written s l r w h q can =
    elim can [
      | inl none ↦ subst (λ bs. HasWritten s (with_bytes s w.at 0 bs) l r w.at bs) (sym none) (record { lists = changed-none s l h; has_request = q })
      | inr some ↦ has-written s l r w.at some.0 w.bytes h q (writable-free s l r.packet w.at some.0 some.1) some.2
    ]

pub written-then : (s u : List ℕ) (l : Lists) (r : Request) (w : Served) → HoldsLists s l → HasRequest s l r → CanServe s l r w → u ≡ with_bytes s w.at 0 w.bytes → HasWritten s u l r w.at w.bytes
written-then s u l r w h q can is = subst (λ z. HasWritten s z l r w.at w.bytes) (sym is) (bytes-written s l r w h q can)

pub keeper-written : (s u : List ℕ) (tells : List ℕ → Type 0) (room : ℕ) (l : Lists) (r : Request) (w : Served) → HasKeeper s tells room l → HasWritten s u l r w.at w.bytes → HasKeeper u tells room l
keeper-written s u tells room l r w k x = keeper-after s u tells tells room l l (written_buffer s w.at w.bytes) k x.lists k.knows

-- and the request was answered
pub is-served : (s u t : List ℕ) (tells : List ℕ → Type 0) (l : Lists) (r : Request) (w : Served) → HasWritten s u l r w.at w.bytes → IsMade u t tells (Ok minus_one) (answered l r w.answer)
    → OwnsRequest l (answered l r w.answer).lists r → IsServed s t tells l r w
is-served s u t tells l r w x made owns =
    record {
      lists = changed-then s u t l (answered l r w.answer).lists (written_buffer s w.at w.bytes) x.lists made.leaves.lists (λ a none. omega (arith, none, owns a));
      knows = made.knows;
      owns = owns;
    }

-- ---- turns

-- what was taken is on no queue
pub taken-plain : (t : List ℕ) (l : Lists) (r : Request) (ps : List QueuedPacket) → Some r ≡ first_request t ps → (taken_from ps l).plain ≡ (r.packet, no_queue) ∷ []
taken-plain t l r [] e = cc
taken-plain t l r (p ∷ ps) e = let same : r ≡ request_at t p.address = cc in ap (λ q. (q.packet, no_queue) ∷ []) (sym same)

module _ (s t v : List ℕ) (l : Lists) (tells told : List ℕ → Type 0) (serve : List ℕ → Lists → Request → Served) (shown : List ℕ) (before mid now : Option (List KernelEvent)) (f h g : Bool) where
  -- there was no request, and the resident waits
  pub turn-idle : IsTaken s t told l None → IsFinished t v (taken l).lists → NotesAll before now f g (taken l).events → IsResidentTurn v told (outside shown before f) (outside shown now g) (request_turn serve s l)
  turn-idle x y notes = on (work l) x.knows x.words x.request y notes
    where
      on : (ps : List QueuedPacket) → Knows told (taken_from ps l).lists → t ≡ words_taken_from ps s l → None ≡ first_request t ps → IsFinished t v (taken_from ps l).lists
          → NotesAll before now f g (taken_from ps l).events
          → IsResidentTurn v told (outside shown before f) (outside shown now g) (turn_of (first_request (words_taken_from ps s l) ps) (serve (words_taken_from ps s l) (taken_from ps l).lists) s l)
      on [] knows words e y notes =
          record {
            lists = subst (λ z. IsChanged z v (finished l) []) words y.lists;
            knows = knows-same told l (finished l) y.same knows;
            bytes = sym (append-nil shown);
            notes = notes;
          }
      on (p ∷ ps) knows words e y notes = cc

  -- a request was served
  module _ (r : Request) (x : IsTaken s t told l (Some r)) where
    abbrev m : Lists
    m = (taken l).lists

    -- the turn, where the request was read in the words z
    abbrev turn-in : List ℕ → ResidentTurn
    turn-in z =
        record {
          words = s;
          lists = (answered m r (serve z m r).answer).lists;
          plain = written_buffer z (serve z m r).at (serve z m r).bytes;
          bytes = [];
          events = (taken l).events ++ (answered m r (serve z m r).answer).events;
        }

    first-is : first_request (words_taken s l) (work l) ≡ Some r
    first-is = ap (λ z. first_request z (work l)) (sym x.words) ∙ sym x.request

    turn-is : turn-in t ≡ request_turn serve s l
    turn-is = ap turn-in x.words ∙ sym (ap (λ o. turn_of o (serve (words_taken s l) m) s l) first-is)

    pub turn-served : IsServed t v tells m r (serve t m r) → NotesAll before mid f h (taken l).events → NotesAll mid now h g (answered m r (serve t m r).answer).events
        → IsResidentTurn v tells (outside shown before f) (outside shown now g) (request_turn serve s l)
    turn-served y one two =
        subst (IsResidentTurn v tells (outside shown before f) (outside shown now g)) turn-is
        (record {
          lists =
              turn-changed s t v m (answered m r (serve t m r).answer).lists r.packet (written_buffer t (serve t m r).at (serve t m r).bytes)
              (subst (IsChanged s t m) (taken-plain t l r (work l) x.request) x.lists) y.lists y.owns;
          knows = y.knows;
          bytes = sym (append-nil shown);
          notes = notes-then before mid now f h g (taken l).events (answered m r (serve t m r).answer).events one two;
        })
