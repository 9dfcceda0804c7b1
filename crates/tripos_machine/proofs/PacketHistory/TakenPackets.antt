-- A packet that was taken comes to a queue again, and the lists stay valid.
use Rattle.std.proofs.Common.{◌≡◌, ℕ, ◌+◌, false, true, Result, List, [], ◌∷◌, ◌++◌, append-nil, refl, sym, ap, ◌∙◌, subst, arith}
use Rattle.std.specs.List.{AllByRecursion}
use Rattle.kernel_lists.specs.OwnedWords.Owned.{written}
use Rattle.kernel_lists.specs.PacketQueue.QueueWords.{QueuedPacket}
use Rattle.kernel_model.specs.KernelRecord.Changes.{AreUnowned, queue_of, with_queue}
use Rattle.kernel_model.specs.KernelRecord.HoldsLists.{HoldsLists}
use Rattle.kernel_model.specs.KernelRecord.Lists.{Lists, has_task}
use Rattle.kernel_model.specs.KernelRecord.Owned.{owned}
use Rattle.kernel_model.specs.KernelRecord.ValidBlocks.{AreData}
use Rattle.kernel_model.specs.KernelRecord.ValidLists.{AreValid}
use Rattle.kernel_model.specs.KernelRecord.ValidQueues.{IsValidPacket, Place, is_fault_packet, is_key_packet}
use Rattle.kernel_model.specs.KernelRecord.ValidQueues.Place.{Clock, Keyboard, Output, Pending, Work}
use Rattle.kernel_model.proofs.KernelRecord.PacketMoves.{unqueued-unowned, unqueued-valid}
use Rattle.kernel_model.proofs.KernelRecord.QueuePlaces.{place-there, valid-at-place, with_queue-residents, with_queue-size}
use Rattle.kernel_calls.specs.PacketCalls.Destinations.{queue_for}
use Rattle.kernel_calls.specs.PacketCalls.PacketMoves.{sent_packet}
use Rattle.kernel_calls.specs.PacketCalls.QueueWords.{unqueued}
use Rattle.kernel_calls.proofs.PacketCalls.Departure.{held-before, others-kept}
use Rattle.kernel_calls.proofs.PacketCalls.SentPackets.{comes-valid}
use Rattle.resident_tasks.specs.ResidentRequests.Answers.{answered_packet, returned}
use Rattle.resident_tasks.specs.ResidentRequests.Requests.{RunsResident, request_at}
use Rattle.resident_tasks.specs.declared.resident_requests.requests.Request.{Request}
use Rattle.resident_tasks.proofs.ResidentRequests.RunningResident.{has_task-work, runs-work}
use Rattle.resident_tasks.specs.ConsoleHandler.Reads.{put_off}
use Rattle.tripos_machine.proofs.PacketHistory.LeftStores.{left-holds}

-- ---- the lists with another queue

-- the same tasks are there
there-then : (id : ℕ) (at : Place) (ps : List QueuedPacket) (l : Lists) → has_task id (with_queue at ps l).tasks ≡ has_task id l.tasks
there-then id (Work i) ps l = has_task-work id i ps l.tasks
there-then id Clock ps l = refl
there-then id Keyboard ps l = refl
there-then id Output ps l = refl
there-then id Pending ps l = refl

-- the resident that runs goes on
pub runs-then : (at : Place) (ps : List QueuedPacket) (l : Lists) → RunsResident l → RunsResident (with_queue at ps l)
runs-then (Work i) ps l r = runs-work l i ps r
runs-then Clock ps l r = record { resident = r.resident; there = r.there; field = r.field }
runs-then Keyboard ps l r = record { resident = r.resident; there = r.there; field = r.field }
runs-then Output ps l r = record { resident = r.resident; there = r.there; field = r.field }
runs-then Pending ps l r = record { resident = r.resident; there = r.there; field = r.field }

data-then : (at : Place) (ps : List QueuedPacket) (l : Lists) (a n : ℕ) → AreData l.blocks a n → AreData (with_queue at ps l).blocks a n
data-then (Work i) ps l a n d = d
data-then Clock ps l a n d = d
data-then Keyboard ps l a n d = d
data-then Output ps l a n d = d
data-then Pending ps l a n d = d

-- ---- the first packet of a queue, which is none of the residents' own

module _ (s : List ℕ) (l : Lists) (h : HoldsLists s l) (at : Place) (p : QueuedPacket) (ps : List QueuedPacket) (is : queue_of at l ≡ p ∷ ps) where
  -- the lists once it was taken
  abbrev m : Lists
  m = with_queue at ps l

  abbrev words : List ℕ
  words = unqueued s (queue_for l at) p.address

  -- its request
  abbrev request : Request
  request = request_at words p.address

  -- the sender is as the store has it
  pub sender-kept : request.sender ≡ p.sender
  sender-kept = others-kept s l at p [] ps h is (p.address + 1) (omega arith) (omega arith) ∙ (held-before s l at p [] ps h is).holds.1.1.0

  -- and is there as before
  pub sender-there : has_task p.sender l.tasks ≡ true → has_task request.sender m.tasks ≡ true
  sender-there from = ap (λ n. has_task n m.tasks) sender-kept ∙ there-then p.sender at ps l ∙ from

  module _ (no_key : is_key_packet l p ≡ false) (no_fault : is_fault_packet l p ≡ false) where
    pub taken-valid : AreValid m
    taken-valid = unqueued-valid l at p [] ps h.valid is no_key no_fault

    taken-holds : HoldsLists (written (owned m) s) m
    taken-holds = left-holds s m [] taken-valid (h.size ∙ sym (with_queue-size at ps l))

    lodged : AreData m.blocks p.address 5
    lodged = data-then at ps l p.address 5 (subst (AllByRecursion (IsValidPacket l at)) is (valid-at-place l at h.valid (place-there l at [] p ps h.valid is))).0.lodged

    unowned : AreUnowned m p.address (p.address + 5)
    unowned = unqueued-unowned l at p [] ps h.valid is

    -- it comes to the queue of its sender, which is there
    module _ (from : has_task p.sender l.tasks ≡ true) where
      pub returned-valid : RunsResident l → (answer : Result ℕ ℕ) → AreValid (returned m request answer).lists
      returned-valid r answer =
          let qs : List QueuedPacket = queue_of (Work request.sender) m in
          comes-valid _ m (Work request.sender) (answered_packet m request answer) taken-holds (sender-there from) lodged unowned (λ _. (runs-then at ps l r).there) qs [] (sym (append-nil qs)) tt

      -- or to the reads that wait
      pub put_off-valid : l.residents ≡ true → AreValid (put_off words m request).lists
      put_off-valid residents =
          comes-valid _ m Pending (sent_packet words m Pending p.address request.sender) taken-holds (with_queue-residents at ps l ∙ residents) lodged unowned (sender-there from) m.pending [] (sym (append-nil m.pending)) tt

      -- and the resident goes on
      pub returned-runs : RunsResident l → (answer : Result ℕ ℕ) → RunsResident (returned m request answer).lists
      returned-runs r answer = runs-then (Work request.sender) (queue_of (Work request.sender) m ++ answered_packet m request answer ∷ []) m (runs-then at ps l r)
