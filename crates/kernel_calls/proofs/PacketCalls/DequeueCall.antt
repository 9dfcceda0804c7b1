-- What a task that takes a packet back leaves.
use Rattle.std.proofs.Common.{◌≡◌, ℕ, ◌+◌, ◌<◌, ◌&&◌, Bool, true, false, not, Option, Some, None, Ok, Err, List, [], ◌∷◌, ◌++◌, cond, eqb, is_some, length, set, refl, sym, ap, ◌∙◌, subst, arith}
use Rattle.std.specs.List.{range_with_len}
use Rattle.word_store.specs.Arithmetic.{signed}
use Rattle.word_store.specs.Count.{IsApart}
use Rattle.kernel_lists.specs.LinkedList.Places.{has}
use Rattle.kernel_lists.specs.OwnedWords.Owned.{owners}
use Rattle.kernel_lists.specs.PacketQueue.Log.{Notes}
use Rattle.kernel_lists.specs.PacketQueue.Queue.{HasQueue, no_queue, queue_at}
use Rattle.kernel_lists.specs.PacketQueue.QueueWords.{QueuedPacket}
use Rattle.kernel_lists.specs.declared.packet_queue.events.KernelEvent.{KernelEvent}
use Rattle.kernel_lists.specs.declared.packet_queue.events.KernelEvent.TheVariants.{Dequeued}
use Rattle.kernel_model.specs.KernelRecord.ChangedStore.{HasKeeper, IsChanged}
use Rattle.kernel_model.specs.KernelRecord.Changes.{HasPlace, queue_of, with_queue}
use Rattle.kernel_model.specs.KernelRecord.Lists.{Lists, has_task}
use Rattle.kernel_model.specs.KernelRecord.NotedEvents.{NotesAll}
use Rattle.kernel_model.specs.KernelRecord.Owned.{owned}
use Rattle.kernel_model.specs.KernelRecord.Residents.{fault_packet, key_packet}
use Rattle.kernel_model.specs.KernelRecord.ValidLists.{AreValid}
use Rattle.kernel_model.specs.KernelRecord.ValidQueues.{is_fault_packet, is_key_packet}
use Rattle.kernel_model.proofs.KernelRecord.NotedInTurn.{notes-none, notes-one}
use Rattle.kernel_model.proofs.KernelRecord.PacketMoves.{unqueued-unowned, unqueued-valid}
use Rattle.kernel_model.proofs.KernelRecord.QueuePlaces.{place-there}
use Rattle.kernel_model.specs.WordKinds.Keeper.{AreTogether}
use Rattle.kernel_model.proofs.WordKinds.KnownWords.{knows-released}
use Rattle.kernel_calls.specs.CallAnswers.CallChange.{IsMade, by_refusal}
use Rattle.kernel_calls.specs.CallAnswers.Refusals.{first_refusal}
use Rattle.kernel_calls.proofs.CallAnswers.MadeCalls.{made-accepted, made-refused}
use Rattle.kernel_calls.specs.PacketCalls.Destinations.{is_destination, queue_for}
use Rattle.kernel_calls.specs.PacketCalls.Dqpkt.{Search, dequeued, dqpkt, dqpkt_tests, found_in, is_residents_packet, searches}
use Rattle.kernel_calls.specs.PacketCalls.PacketMoves.{departed, is_on_queue}
use Rattle.kernel_calls.specs.PacketCalls.QueueWords.{head_of, unqueued}
use Rattle.kernel_calls.specs.declared.packet_calls.dequeue.Found.{Found}
use Rattle.kernel_calls.proofs.PacketCalls.Departure.{departed-changed, owners-departed, packet-inside}
use Rattle.kernel_calls.proofs.PacketCalls.HeldPlaces.{IsQueuedBetween, between-parts, has-at, valid-at}
use Rattle.kernel_calls.proofs.PacketCalls.KeptWords.{changed-plain}
use Rattle.word_store.proofs.Elements.{find-passes}
use Rattle.kernel_calls.proofs.PacketCalls.Searches.{IsFound}
use Rattle.std.proofs.lemmas.Bool.{or_parts}

module _ (s : List ℕ) (tells : List ℕ → Type 0) (room : ℕ) (l : Lists) (id p : ℕ) (k : HasKeeper s tells room l) where
  tests-are : (destination found own : Bool) → is_destination l id ≡ destination → is_some (found_in l id p) ≡ found → is_residents_packet l p ≡ own
      → first_refusal (dqpkt_tests l id p) ≡ cond destination (cond found (cond (not own) None (Some 14)) (Some 19)) (Some 4)
  tests-are destination found own a b c = λ i. cond (a i) (cond (b i) (cond (not (c i)) None (Some 14)) (Some 19)) (Some 4)

  -- the refusals
  pub nowhere : is_destination l id ≡ false → first_refusal (dqpkt_tests l id p) ≡ Some 4
  nowhere e = tests-are false (is_some (found_in l id p)) (is_residents_packet l p) e refl refl

  pub not-queued : is_destination l id ≡ true → is_some (found_in l id p) ≡ false → first_refusal (dqpkt_tests l id p) ≡ Some 19
  not-queued e f = tests-are true false (is_residents_packet l p) e f refl

  pub residents-own : is_destination l id ≡ true → is_some (found_in l id p) ≡ true → is_residents_packet l p ≡ true → first_refusal (dqpkt_tests l id p) ≡ Some 14
  residents-own e f g = tests-are true true true e f g

  pub not-dequeued : (code : ℕ) → first_refusal (dqpkt_tests l id p) ≡ Some code → IsMade s s tells (Err code) (dqpkt l id p)
  not-dequeued code e = made-refused s l (dqpkt_tests l id p) (dequeued p (found_in l id p) l) tells code k.lists k.knows e

  pub not-noted : (code : ℕ) (events : Option (List KernelEvent)) (f : Bool) → first_refusal (dqpkt_tests l id p) ≡ Some code → NotesAll events events f f (dqpkt l id p).events
  not-noted code events f e = subst (λ o. NotesAll events events f f (by_refusal o l (dequeued p (found_in l id p) l)).events) (sym e) (notes-none events f)

  -- found
  module _ (f : Found) (x : IsFound l id p f) where
    abbrev w : Search
    w = x.search

    pub some-found : is_some (found_in l id p) ≡ true
    some-found = ap is_some x.found

    between : IsQueuedBetween p (queue_of w.place l)
    between = between-parts p (queue_of w.place l) (find-passes (λ z. is_on_queue p (queue_of z.place l)) (searches l id) w x.found)

    abbrev q : QueuedPacket
    q = between.packet

    place : HasPlace l w.place
    place = place-there l w.place between.front q between.back k.lists.valid between.is

    pub found-queue : HasQueue s (head_of f.queue)
    found-queue = subst (λ (z : Found). HasQueue s (head_of z.queue)) (sym x.located) (valid-at s l w.place k.lists place)

    pub found-packet : has p (queue_at s (head_of f.queue)) ≡ true
    found-packet =
        subst (λ (z : Found). has p (queue_at s (head_of z.queue)) ≡ true) (sym x.located)
        (has-at s l w.place k.lists place p ∙ find-passes (λ z. is_on_queue p (queue_of z.place l)) (searches l id) w x.found)

    -- it may be taken back
    module _ (names : is_destination l id ≡ true) (plain : is_residents_packet l p ≡ false) where
      accepted : first_refusal (dqpkt_tests l id p) ≡ None
      accepted = tests-are true true false names some-found plain

      none : (l.residents && eqb p key_packet ≡ false) × (has_task 2 l.tasks && eqb p fault_packet ≡ false)
      none = or_parts (l.residents && eqb p key_packet) (has_task 2 l.tasks && eqb p fault_packet) plain

      no_key : is_key_packet l q ≡ false
      no_key = ap (λ a. l.residents && eqb a key_packet) between.address ∙ none.0

      no_fault : is_fault_packet l q ≡ false
      no_fault = ap (λ a. has_task 2 l.tasks && eqb a fault_packet) between.address ∙ none.1

      abbrev m : Lists
      m = with_queue w.place (between.front ++ between.back) l

      valid : AreValid m
      valid = unqueued-valid l w.place q between.front between.back k.lists.valid between.is no_key no_fault

      becomes : with_queue w.place (departed p (queue_of w.place l)) l ≡ m
      becomes = ap (λ ps. with_queue w.place ps l) between.others

      module _ (v : List ℕ) (is : v ≡ unqueued s f.queue p) where
        left-is : v ≡ unqueued s (queue_for l w.place) q.address
        left-is = is ∙ (λ i. unqueued s (ap (λ (z : Found). z.queue) x.located i) (sym between.address i))

        changed : IsChanged s v m ((q.address, no_queue) ∷ [])
        changed = departed-changed s l w.place q between.front between.back k.lists between.is v valid left-is

        unowned : owners (q.address + 1) (owned m) ≡ 0
        unowned = unqueued-unowned l w.place q between.front between.back k.lists.valid between.is (q.address + 1) (omega arith) (omega arith)

        inside : q.address + 1 < length v
        inside = omega (arith, changed.size, packet-inside s l w.place q between.front between.back k.lists between.is (q.address + 1) (omega arith) (omega arith))

        whole : IsChanged s (set v (q.address + 1) w.answer) m ((q.address + 1, w.answer) ∷ (q.address, no_queue) ∷ [])
        whole = changed-plain s v m ((q.address, no_queue) ∷ []) (q.address + 1) w.answer changed unowned inside

        pub is-dequeued : (u : List ℕ) (told : List ℕ → Type 0) → u ≡ set v (p + 1) f.answer
            → ((known rest : List ℕ) → tells known → IsApart known → AreTogether known rest (range_with_len p 5) → told rest)
            → IsMade s u told (Ok f.answer) (dqpkt l id p)
        is-dequeued u told written release =
            subst (λ z. IsMade s u told (Ok z) (dqpkt l id p)) (sym (ap (λ (z : Found). z.answer) x.located))
            (made-accepted s l (dqpkt_tests l id p) (dequeued p (found_in l id p) l) u told (Ok w.answer) accepted
            (subst (λ o. IsMade s u told (Ok w.answer) (dequeued p o l)) (sym x.found)
            (subst (λ ps. IsMade s u told (Ok w.answer) (record { answer = Ok w.answer; lists = ps; plain = (p + 1, w.answer) ∷ (p, no_queue) ∷ []; events = Dequeued (signed w.number) p ∷ [] })) (sym becomes)
            (record {
              leaves =
                  record {
                    lists =
                        subst (λ z. IsChanged s z m ((p + 1, w.answer) ∷ (p, no_queue) ∷ [])) (sym (written ∙ ap (λ (z : Found). set v (p + 1) z.answer) x.located))
                        (subst (λ a. IsChanged s (set v (a + 1) w.answer) m ((a + 1, w.answer) ∷ (a, no_queue) ∷ [])) between.address whole);
                    answered = refl;
                  };
              knows =
                  knows-released tells told l m q.address 5 k.lists.valid.owns (owners-departed s l w.place q between.front between.back k.lists between.is) k.knows
                  (subst (λ z. (known rest : List ℕ) → tells known → IsApart known → AreTogether known rest (range_with_len z 5) → told rest) (sym between.address) release);
            }))))

      pub is-noted : (before now : Option (List KernelEvent)) (b d : Bool) → Notes before now b d (Dequeued (signed f.number) p) → NotesAll before now b d (dqpkt l id p).events
      is-noted before now b d notes =
          subst (λ o. NotesAll before now b d (by_refusal o l (dequeued p (found_in l id p) l)).events) (sym accepted)
          (subst (λ o. NotesAll before now b d (dequeued p o l).events) (sym x.found)
          (subst (λ (z : Found). NotesAll before now b d (Dequeued (signed z.number) p ∷ [])) x.located (notes-one before now b d _ notes)))
