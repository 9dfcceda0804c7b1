-- What a task that sends a packet leaves.
use Rattle.std.proofs.Common.{◌≡◌, ℕ, ◌+◌, ◌≤◌, Bool, false, Option, Some, None, Ok, Err, List, [], ◌∷◌, cond, get_or, set, refl, sym, ap, ◌∙◌, subst, arith}
use Rattle.std.specs.List.{range_with_len}
use Rattle.word_store.specs.Arithmetic.{signed}
use Rattle.kernel_lists.specs.PacketQueue.Log.{Notes}
use Rattle.kernel_lists.specs.PacketQueue.Queue.{CanQueue, HasQueue}
use Rattle.kernel_lists.specs.declared.packet_queue.events.KernelEvent.{KernelEvent}
use Rattle.kernel_lists.specs.declared.packet_queue.events.KernelEvent.TheVariants.{Accepted}
use Rattle.kernel_model.specs.KernelRecord.ChangedStore.{HasKeeper}
use Rattle.kernel_model.specs.KernelRecord.Lists.{Lists}
use Rattle.kernel_model.specs.KernelRecord.NotedEvents.{NotesAll}
use Rattle.kernel_model.specs.KernelRecord.ValidBlocks.{AreData}
use Rattle.kernel_model.specs.KernelRecord.ValidQueues.{HasSender, Place}
use Rattle.kernel_model.specs.KernelRecord.ValidQueues.Place.{Clock, Keyboard, Output, Pending, Work}
use Rattle.kernel_model.proofs.KernelRecord.DataInside.{AreData-inside}
use Rattle.kernel_model.proofs.KernelRecord.NotedInTurn.{notes-none, notes-one}
use Rattle.kernel_model.specs.WordKinds.Keeper.{AreTogether}
use Rattle.kernel_model.proofs.WordKinds.KnownWords.{knows-claimed}
use Rattle.kernel_calls.specs.CallAnswers.Callers.{HasCaller}
use Rattle.kernel_calls.specs.CallAnswers.Guests.{GuestAt}
use Rattle.kernel_calls.specs.CallAnswers.CallChange.{IsMade, by_refusal, minus_one}
use Rattle.kernel_calls.specs.CallAnswers.Refusals.{first_refusal}
use Rattle.kernel_calls.proofs.CallAnswers.MadeCalls.{made-accepted, made-refused}
use Rattle.kernel_calls.proofs.CallAnswers.Refusals.{first_refusal-failed, first_refusal-passed}
use Rattle.kernel_calls.proofs.CallAnswers.RootTold.{tick-told}
use Rattle.kernel_calls.specs.PacketCalls.Destinations.{is_destination, place_of, queue_for}
use Rattle.kernel_calls.specs.PacketCalls.PacketMoves.{sent_packet, with_arrived}
use Rattle.kernel_calls.specs.PacketCalls.Qpkt.{packet_tests, qpkt, qpkt_tests, sent_to}
use Rattle.kernel_calls.specs.PacketCalls.QueueWords.{head_of, sent_words}
use Rattle.kernel_calls.specs.declared.packet_calls.queues.Queue.{Queue}
use Rattle.kernel_calls.proofs.PacketCalls.CallerTask.{caller-number}
use Rattle.kernel_calls.proofs.PacketCalls.NamedQueues.{Names}
use Rattle.kernel_calls.proofs.PacketCalls.PacketTests.{PassesTests, passes-tests}
use Rattle.kernel_calls.proofs.PacketCalls.SentPackets.{Sent, sent-packet}

-- the task that calls may send to every place
caller-sends : (l : Lists) (at : Place) → HasCaller l → HasSender l at l.running
caller-sends l (Work id) c = λ _. c.there
caller-sends l Clock c = (c.guest, c.there)
caller-sends l Keyboard c = (c.guest, c.there)
caller-sends l Output c = (c.guest, c.there)
caller-sends l Pending c = c.there

-- words of one used block are words that a keeper can know
pub lodged-room : (s : List ℕ) (tells : List ℕ → Type 0) (room : ℕ) (l : Lists) (p : ℕ) → HasKeeper s tells room l → AreData l.blocks p 5 → p + 5 ≤ room
lodged-room s tells room l p k lodged = omega (arith, AreData-inside l p 5 (p + 4) k.lists.valid.blocks lodged (omega arith), k.lists.size, k.enough)

module _ (s : List ℕ) (tells : List ℕ → Type 0) (room : ℕ) (l : Lists) (p : ℕ) (k : HasKeeper s tells room l) where
  abbrev number : ℕ
  number = get_or s (p + 1) 0

  abbrev destination_test : List (Bool × ℕ)
  destination_test = (is_destination l number, 4) ∷ []

  -- refused by a test of the packet, or by that of its destination
  pub misplaced : (code : ℕ) → first_refusal (packet_tests s l p) ≡ Some code → first_refusal (qpkt_tests s l p) ≡ Some code
  misplaced code e = first_refusal-failed (packet_tests s l p) destination_test code e

  passed : first_refusal (packet_tests s l p) ≡ None → first_refusal (qpkt_tests s l p) ≡ cond (is_destination l number) None (Some 4)
  passed e = first_refusal-passed (packet_tests s l p) destination_test e

  pub nowhere : first_refusal (packet_tests s l p) ≡ None → is_destination l number ≡ false → first_refusal (qpkt_tests s l p) ≡ Some 4
  nowhere e none = passed e ∙ ap (λ b. cond b None (Some 4)) none

  pub not-sent : (code : ℕ) → first_refusal (qpkt_tests s l p) ≡ Some code → IsMade s s tells (Err code) (qpkt s l p)
  not-sent code e = made-refused s l (qpkt_tests s l p) (sent_to number s l p) tells code k.lists k.knows e

  pub not-noted : (code : ℕ) (events : Option (List KernelEvent)) (f : Bool) → first_refusal (qpkt_tests s l p) ≡ Some code → NotesAll events events f f (qpkt s l p).events
  not-noted code events f e = subst (λ o. NotesAll events events f f (by_refusal o l (sent_to number s l p)).events) (sym e) (notes-none events f)

  -- accepted
  module _ (c : HasCaller l) (t : ℕ) (g : GuestAt l l.running t) (passes : first_refusal (packet_tests s l p) ≡ None) (queue : Queue) (names : Names l number queue) where
    tests : PassesTests l p
    tests = passes-tests s l p passes

    accepted : first_refusal (qpkt_tests s l p) ≡ None
    accepted = passed passes ∙ ap (λ b. cond b None (Some 4)) names.is

    sent : Sent s l (place_of number) p l.running
    sent = sent-packet s l p l.running k.lists tests.lodged tests.plain (tick-told s l k.lists) (place_of number) names.place (caller-sends l (place_of number) c)

    -- the sender is the number that is in the block of the task that calls
    from : get_or s (t + 1) 0 ≡ l.running
    from = caller-number s l l.running t k.lists g

    pub send-room : p + 5 ≤ room
    send-room = lodged-room s tells room l p k tests.lodged

    module _ (sender : ℕ) (is_sender : sender ≡ get_or s (t + 1) 0) where
      number-is : l.running ≡ sender
      number-is = sym (is_sender ∙ from)

      pub send-queue : HasQueue (set s (p + 1) sender) (head_of queue)
      send-queue = subst (λ q. HasQueue (set s (p + 1) sender) (head_of q)) (sym names.queue) (subst (λ z. HasQueue (set s (p + 1) z) (head_of (queue_for l (place_of number)))) number-is sent.queue)

      pub send-packet : CanQueue (set s (p + 1) sender) (head_of queue) p
      send-packet = subst (λ q. CanQueue (set s (p + 1) sender) (head_of q) p) (sym names.queue) (subst (λ z. CanQueue (set s (p + 1) z) (head_of (queue_for l (place_of number))) p) number-is sent.packet)

      pub is-sent : (v : List ℕ) (told : List ℕ → Type 0) → v ≡ sent_words s queue p sender
          → ((known after : List ℕ) → tells known → AreTogether after known (range_with_len p 5) → told after) → IsMade s v told (Ok minus_one) (qpkt s l p)
      is-sent v told is claim =
          made-accepted s l (qpkt_tests s l p) (sent_to number s l p) v told (Ok minus_one) accepted
          (record {
            leaves = record { lists = sent.changed v (is ∙ (λ i. sent_words s (names.queue i) p (sym number-is i))); answered = refl };
            knows = knows-claimed tells told l (with_arrived (place_of number) (sent_packet s l (place_of number) p l.running) l) p 5 sent.more k.knows claim;
          })

      pub is-noted : (before now : Option (List KernelEvent)) (f g' : Bool) → Notes before now f g' (Accepted (signed number) p (signed sender)) → NotesAll before now f g' (qpkt s l p).events
      is-noted before now f g' notes =
          subst (λ o. NotesAll before now f g' (by_refusal o l (sent_to number s l p)).events) (sym accepted)
          (subst (λ z. NotesAll before now f g' (Accepted (signed number) p (signed z) ∷ [])) (sym number-is) (notes-one before now f g' _ notes))
