-- What a read that comes to the others leaves, and what taking the first leaves.
use Rattle.std.proofs.Common.{◌≡◌, ◌≢◌, ℕ, ◌+◌, ◌≤◌, Bool, true, false, Option, Some, None, Ok, List, [], ◌∷◌, get_or, set, refl, sym, ap, ◌∙◌, subst, arith}
use Rattle.std.specs.List.{AllByRecursion, range_with_len}
use Rattle.std.proofs.lemmas.Bool.{eq-eqb, false_from_ne_true, or_left}
use Rattle.word_store.specs.Arithmetic.{signed}
use Rattle.word_store.specs.Count.{IsApart}
use Rattle.kernel_lists.specs.LinkedList.Places.{has}
use Rattle.kernel_lists.specs.PacketQueue.Log.{Notes}
use Rattle.kernel_lists.specs.PacketQueue.Queue.{CanQueue, HasQueue, queue_at}
use Rattle.kernel_lists.specs.PacketQueue.QueueWords.{QueuedPacket, first_packet}
use Rattle.kernel_lists.specs.declared.packet_queue.events.KernelEvent.{KernelEvent}
use Rattle.kernel_lists.specs.declared.packet_queue.events.KernelEvent.TheVariants.{Taken}
use Rattle.kernel_model.specs.KernelRecord.ChangedStore.{HasKeeper, IsChanged, Knows}
use Rattle.kernel_model.specs.KernelRecord.Changes.{AreUnowned, with_queue}
use Rattle.kernel_model.specs.KernelRecord.Lists.{Lists, has_task}
use Rattle.kernel_model.specs.KernelRecord.NotedEvents.{NotesAll}
use Rattle.kernel_model.specs.KernelRecord.Residents.{pending_head}
use Rattle.kernel_model.specs.KernelRecord.ValidBlocks.{AreData}
use Rattle.kernel_model.specs.KernelRecord.ValidLists.{AreValid}
use Rattle.kernel_model.specs.KernelRecord.ValidQueues.{IsFaultPacket, IsKeyPacket, IsValidPacket, is_fault_packet, is_key_packet}
use Rattle.kernel_model.specs.KernelRecord.ValidQueues.Place.{Pending}
use Rattle.kernel_model.proofs.KernelRecord.ChangedLists.{changed-none}
use Rattle.kernel_model.proofs.KernelRecord.NotedInTurn.{notes-none, notes-one}
use Rattle.kernel_model.proofs.KernelRecord.PacketMoves.{unqueued-unowned, unqueued-valid}
use Rattle.kernel_model.specs.WordKinds.Keeper.{AreTogether}
use Rattle.kernel_model.proofs.WordKinds.KnownWords.{knows-claimed, knows-released}
use Rattle.kernel_calls.specs.CallAnswers.CallChange.{IsMade, minus_one}
use Rattle.kernel_calls.proofs.CallAnswers.RootTold.{tick-told}
use Rattle.kernel_calls.specs.PacketCalls.PacketMoves.{is_on_queue}
use Rattle.kernel_calls.specs.PacketCalls.QueueWords.{sent_words, unqueued}
use Rattle.kernel_calls.specs.declared.packet_calls.queues.Queue.TheVariants as queues
use Rattle.kernel_calls.proofs.PacketCalls.Departure.{departed-changed, held-before, others-kept, owners-departed}
use Rattle.kernel_calls.proofs.PacketCalls.HeldPlaces.{HasFirst, first-there, has-at, held-at, no-packets, valid-at}
use Rattle.kernel_calls.proofs.PacketCalls.SendCall.{lodged-room}
use Rattle.kernel_calls.proofs.PacketCalls.SentPackets.{Sent, sent-packet}
use Rattle.kernel_model.specs.declared.kernel_record.numbers.TheConstants.{PENDING}
use Rattle.resident_tasks.specs.ConsoleHandler.Reads.{IsReadTaken, put_off, read_taken, read_taken_from, words_read_from}
use Rattle.resident_tasks.specs.ResidentRequests.Answers.{OwnsRequest}
use Rattle.resident_tasks.specs.ResidentRequests.Requests.{HasRequest, first_request, request_at}
use Rattle.resident_tasks.specs.declared.resident_requests.requests.Request.{Request}

module _ (s : List ℕ) (tells : List ℕ → Type 0) (room : ℕ) (l : Lists) (k : HasKeeper s tells room l) (residents : l.residents ≡ true) where
  -- ---- a read comes

  module _ (r : Request) (h : HasRequest s l r) where
    sent : Sent s l Pending r.packet r.sender
    sent = sent-packet s l r.packet r.sender k.lists h.lodged h.plain (tick-told s l k.lists) Pending residents h.there

    pub come-queue : HasQueue (set s (r.packet + 1) r.sender) pending_head
    come-queue = sent.queue

    pub come-packet : CanQueue (set s (r.packet + 1) r.sender) pending_head r.packet
    come-packet = sent.packet

    pub come-room : r.packet + 5 ≤ room
    come-room = lodged-room s tells room l r.packet k h.lodged

    pub come-owns : OwnsRequest l (put_off s l r).lists r
    come-owns = sent.more

    pub come-made : (t : List ℕ) (told : List ℕ → Type 0) → t ≡ sent_words s queues.Pending r.packet r.sender
        → ((known after : List ℕ) → tells known → AreTogether after known (range_with_len r.packet 5) → told after) → IsMade s t told (Ok minus_one) (put_off s l r)
    come-made t told is claim =
        record {
          leaves = record { lists = sent.changed t is; answered = refl };
          knows = knows-claimed tells told l (put_off s l r).lists r.packet 5 sent.more k.knows claim;
        }

  -- ---- none waits

  first-is : get_or s pending_head 0 ≡ first_packet l.pending
  first-is = (held-at s l Pending k.lists residents).holds.0

  module _ (none : get_or s pending_head 0 ≡ 0) where
    empty : l.pending ≡ []
    empty = no-packets l.pending (held-at s l Pending k.lists residents).some (sym first-is ∙ none)

    pub none-waits : IsReadTaken s s tells l None
    none-waits =
        record {
          lists = subst (λ ps. IsChanged s s (read_taken_from ps l).lists (read_taken_from ps l).plain) (sym empty) (changed-none s l k.lists);
          knows = subst (λ ps. Knows tells (read_taken_from ps l).lists) (sym empty) k.knows;
          words = subst (λ ps. s ≡ words_read_from ps s) (sym empty) refl;
          request = subst (λ ps. None ≡ first_request s ps) (sym empty) refl;
          has_request = tt;
          owns = tt;
        }

    pub none-noted : (events : Option (List KernelEvent)) (f : Bool) → NotesAll events events f f (read_taken l).events
    none-noted events f = subst (λ ps. NotesAll events events f f (read_taken_from ps l).events) (sym empty) (notes-none events f)

  -- ---- the first read

  module _ (p : ℕ) (is_first : p ≡ get_or s pending_head 0) (some : p ≢ 0) where
    first : HasFirst p l.pending
    first = first-there p l.pending (is_first ∙ first-is) some

    abbrev q : QueuedPacket
    q = first.packet

    abbrev back : List QueuedPacket
    back = first.back

    abbrev m : Lists
    m = with_queue Pending back l

    valid-packet : IsValidPacket l Pending q
    valid-packet = (subst (AllByRecursion (IsValidPacket l Pending)) first.is k.lists.valid.queues.pending).0

    no_key : is_key_packet l q ≡ false
    no_key = false_from_ne_true (is_key_packet l q) (λ e. (let i : IsKeyPacket Pending q = valid-packet.key e in i.place))

    no_fault : is_fault_packet l q ≡ false
    no_fault = false_from_ne_true (is_fault_packet l q) (λ e. (let i : IsFaultPacket Pending q = valid-packet.fault e in let is = i.place in cc))

    valid : AreValid m
    valid = unqueued-valid l Pending q [] back k.lists.valid first.is no_key no_fault

    pub read-queue : HasQueue s pending_head
    read-queue = valid-at s l Pending k.lists residents

    pub read-packet : has p (queue_at s pending_head) ≡ true
    read-packet = has-at s l Pending k.lists residents p ∙ ap (is_on_queue p) first.is ∙ or_left _ (is_on_queue p back) (eq-eqb p q.address (sym first.address))

    module _ (v : List ℕ) (is_left : v ≡ unqueued s queues.Pending p) where
      left : v ≡ unqueued s queues.Pending q.address
      left = is_left ∙ ap (unqueued s queues.Pending) (sym first.address)

      sender : get_or v (p + 1) 0 ≡ q.sender
      sender =
          (λ i. get_or (left i) (sym first.address i + 1) 0)
          ∙ others-kept s l Pending q [] back k.lists first.is (q.address + 1) (omega arith) (omega arith)
          ∙ (held-before s l Pending q [] back k.lists first.is).holds.1.1.0

      has-request : HasRequest v m (request_at v p)
      has-request =
          record {
            sender = refl;
            kind = refl;
            there = ap (λ i. has_task i l.tasks) sender ∙ valid-packet.sender no_key;
            lodged = subst (λ a. AreData l.blocks a 5) first.address valid-packet.lodged;
            plain = subst (λ a. AreUnowned m a (a + 5)) first.address (unqueued-unowned l Pending q [] back k.lists.valid first.is);
          }

      pub read-taken : (told : List ℕ → Type 0) → ((known rest : List ℕ) → tells known → IsApart known → AreTogether known rest (range_with_len p 5) → told rest)
          → IsReadTaken s v told l (Some (request_at v p))
      read-taken told release =
          record {
            lists = subst (λ ps. IsChanged s v (read_taken_from ps l).lists (read_taken_from ps l).plain) (sym first.is) (departed-changed s l Pending q [] back k.lists first.is v valid left);
            knows =
                subst (λ ps. Knows told (read_taken_from ps l).lists) (sym first.is)
                (knows-released tells told l m q.address 5 k.lists.valid.owns (owners-departed s l Pending q [] back k.lists first.is) k.knows
                (subst (λ z. (known rest : List ℕ) → tells known → IsApart known → AreTogether known rest (range_with_len z 5) → told rest) (sym first.address) release));
            words = subst (λ ps. v ≡ words_read_from ps s) (sym first.is) left;
            request = subst (λ ps. Some (request_at v p) ≡ first_request v ps) (sym first.is) (ap (λ a. Some (request_at v a)) (sym first.address));
            has_request = subst (λ ps. HasRequest v (read_taken_from ps l).lists (request_at v p)) (sym first.is) has-request;
            owns =
                subst (λ ps. OwnsRequest (read_taken_from ps l).lists l (request_at v p)) (sym first.is)
                (subst (λ a. OwnsRequest m l (request_at v a)) first.address (owners-departed s l Pending q [] back k.lists first.is));
          }

      pub read-noted : (before now : Option (List KernelEvent)) (f g : Bool) → Notes before now f g (Taken (signed PENDING) p (signed (get_or v (p + 1) 0))) → NotesAll before now f g (read_taken l).events
      read-noted before now f g notes =
          subst (λ ps. NotesAll before now f g (read_taken_from ps l).events) (sym first.is)
          (subst (λ e. NotesAll before now f g (e ∷ [])) (λ i. Taken (signed PENDING) (sym first.address i) (signed (sender i))) (notes-one before now f g _ notes))
