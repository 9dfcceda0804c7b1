-- What a resident that returns a request leaves.
use Rattle.std.proofs.Common.{◌≡◌, ℕ, ◌+◌, ◌<◌, ◌≤◌, Bool, Option, Result, Ok, List, [], ◌∷◌, ◌++◌, sym, ap, ◌∙◌, subst, append-nil}
use Rattle.std.specs.List.{AllByRecursion, range_with_len}
use Rattle.word_store.specs.Arithmetic.{signed}
use Rattle.word_store.specs.Count.{times}
use Rattle.kernel_lists.specs.OwnedWords.Owned.{owners}
use Rattle.kernel_lists.specs.PacketQueue.QueueWords.{QueuedPacket}
use Rattle.kernel_lists.specs.declared.packet_queue.events.KernelEvent.{KernelEvent}
use Rattle.kernel_lists.specs.declared.packet_queue.events.KernelEvent.TheVariants.{Accepted}
use Rattle.kernel_model.specs.KernelRecord.ChangedStore.{HasKeeper}
use Rattle.kernel_model.specs.KernelRecord.Changes.{queue_of, with_queue}
use Rattle.kernel_model.specs.KernelRecord.Lists.{Lists, has_task}
use Rattle.kernel_model.specs.KernelRecord.NotedEvents.{NotesAll}
use Rattle.kernel_model.specs.KernelRecord.Owned.{owned}
use Rattle.kernel_model.specs.KernelRecord.ValidLists.{AreValid}
use Rattle.kernel_model.specs.KernelRecord.ValidQueues.Place.{Work}
use Rattle.kernel_model.specs.WordKinds.Keeper.{AreTogether}
use Rattle.kernel_model.proofs.WordKinds.KnownWords.{knows-claimed}
use Rattle.kernel_calls.specs.CallAnswers.CallChange.{CallChange, IsMade, Leaves, minus_one}
use Rattle.kernel_calls.specs.PacketCalls.PacketMoves.{with_arrived}
use Rattle.kernel_calls.proofs.PacketCalls.Arrival.{owners-arrived}
use Rattle.kernel_calls.specs.PacketCalls.Reply.{CanReply, reply}
use Rattle.kernel_calls.proofs.PacketCalls.SendCall.{lodged-room}
use Rattle.kernel_calls.proofs.PacketCalls.SentPackets.{comes-some, comes-valid}
use Rattle.resident_tasks.specs.ResidentRequests.Answers.{answered_packet, res1_of, res2_of, returned}
use Rattle.resident_tasks.specs.ResidentRequests.Requests.{HasRequest, RunsResident}
use Rattle.resident_tasks.specs.declared.resident_requests.requests.Request.{Request}

module _ (s : List ℕ) (tells : List ℕ → Type 0) (room : ℕ) (l : Lists) (r : Request) (from : ℕ) (k : HasKeeper s tells room l) (runs : RunsResident l) (h : HasRequest s l r) (is_from : from ≡ l.running) where
  pub can-return : CanReply s l r.packet from
  can-return =
      record {
        there = ap (λ i. has_task i l.tasks) h.sender ∙ h.there;
        lodged = h.lodged;
        plain = h.plain;
        sender = λ _. ap (λ i. has_task i l.tasks) is_from ∙ runs.there;
      }

  pub return-room : r.packet + 5 ≤ room
  return-room = lodged-room s tells room l r.packet k h.lodged

  module _ (answer : Result ℕ ℕ) where
    abbrev q : QueuedPacket
    q = answered_packet l r answer

    abbrev ps : List QueuedPacket
    ps = queue_of (Work r.sender) l

    abbrev made-by : ℕ → ℕ → ℕ → CallChange
    made-by sender kind number = record {
      answer = Ok minus_one;
      lists = with_arrived (Work sender) (record { address = r.packet; sender = number; kind = kind; res1 = res1_of answer; last = res2_of answer }) l;
      plain = [];
      events = Accepted (signed sender) r.packet (signed number) ∷ [];
    }

    reply-is : reply s l r.packet from (res1_of answer) (res2_of answer) ≡ returned l r answer
    reply-is = λ i. made-by (h.sender i) (h.kind i) (is_from i)

    whole : ps ≡ ps ++ []
    whole = sym (append-nil ps)

    valid : AreValid (with_queue (Work r.sender) (ps ++ q ∷ []) l)
    valid = comes-valid s l (Work r.sender) q k.lists h.there h.lodged h.plain (λ _. runs.there) ps [] whole tt

    some : AllByRecursion (λ z. 0 < z.address) (ps ++ q ∷ [])
    some = comes-some s l (Work r.sender) q k.lists h.there h.lodged h.plain (λ _. runs.there) ps [] whole

    -- its five words are owned again
    pub owners-returned : (a : ℕ) → owners a (owned (returned l r answer).lists) ≡ owners a (owned l) + times a (range_with_len r.packet 5)
    owners-returned = owners-arrived s l (Work r.sender) q ps [] k.lists.holds k.lists.size k.lists.valid.tasks.distinct h.there whole valid some

    pub is-returned : (v : List ℕ) (told : List ℕ → Type 0) → Leaves s v (Ok minus_one) (reply s l r.packet from (res1_of answer) (res2_of answer))
        → ((known after : List ℕ) → tells known → AreTogether after known (range_with_len r.packet 5) → told after) → IsMade s v told (Ok minus_one) (returned l r answer)
    is-returned v told leaves claim =
        record {
          leaves = subst (Leaves s v (Ok minus_one)) reply-is leaves;
          knows = knows-claimed tells told l (returned l r answer).lists r.packet 5 owners-returned k.knows claim;
        }

    pub is-noted : (before now : Option (List KernelEvent)) (f g : Bool) → NotesAll before now f g (reply s l r.packet from (res1_of answer) (res2_of answer)).events → NotesAll before now f g (returned l r answer).events
    is-noted before now f g notes = subst (λ m. NotesAll before now f g m.events) reply-is notes
