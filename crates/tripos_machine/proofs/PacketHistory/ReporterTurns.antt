-- The turn of the task that reports faults leaves valid lists.
use Rattle.std.proofs.Common.{◌≡◌, ℕ, zero, suc, ◌+◌, ◌≤◌, Bool, true, false, cond, eqb, get_or, set, Option, Some, None, List, [], ◌∷◌, refl, sym, ap, ◌∙◌, subst, arith}
use Rattle.std.proofs.lemmas.Bool.{eqb-true}
use Rattle.kernel_lists.specs.TaskBlock.TaskChain.{task_with, tasks_in}
use Rattle.kernel_lists.specs.PacketQueue.QueueWords.{QueuedPacket}
use Rattle.kernel_model.specs.KernelRecord.Changes.{queue_of, with_task}
use Rattle.kernel_model.specs.KernelRecord.HoldsLists.{HoldsLists}
use Rattle.kernel_model.specs.KernelRecord.Lists.{Lists}
use Rattle.kernel_model.specs.KernelRecord.Residents.{fault_packet}
use Rattle.kernel_model.specs.KernelRecord.ValidLists.{AreValid}
use Rattle.kernel_model.specs.KernelRecord.ValidQueues.Place.{Work}
use Rattle.kernel_model.proofs.KernelRecord.ResidentPackets.{fault_unqueued-valid}
use Rattle.kernel_calls.proofs.CallAnswers.FoundTask.{Finds, find-task}
use Rattle.resident_tasks.specs.ResidentRequests.Requests.{RunsResident, work}
use Rattle.resident_tasks.specs.ResidentRequests.Turns.{request_turn}
use Rattle.resident_tasks.specs.FaultReporter.FaultTurns.{all_reported, fault_taken_from, fault_turn, fault_turn_from, is_fault_first, packet_taken, reported, reported_turn, unknown}
use Rattle.resident_tasks.specs.FaultReporter.Recorded.{OwnsSame}
use Rattle.resident_tasks.specs.FaultReporter.Texts.{is_unreported_word}
use Rattle.resident_tasks.proofs.FaultReporter.Reported.{marks-begin, marks-end, marks-next, no-guest, nothing-new, one-new, reported_below}
use Rattle.resident_tasks.proofs.FaultReporter.ReportedTurn.{reported-runs, taken-runs, takes-other}
use Rattle.tripos_machine.proofs.PacketHistory.HandlerTurns.{finished-valid, request-valid}
use Rattle.tripos_machine.proofs.PacketHistory.LeftStores.{left-holds}

-- ---- all faults are reported, by one number of a guest after another

module _ (s : List ℕ) (l : Lists) (h : HoldsLists s l) where
  -- the words of the store once the guests with lower numbers are
  record AreReported (n : ℕ) : Type 0 where
    words : List ℕ
    same : OwnsSame s words l (reported_below n l)

  next-reported : (n : ℕ) → 5 ≤ n → AreReported n → AreReported (n + 1)
  next-reported n low r = on (task_with r.words n (tasks_in r.words)) (find-task r.words m n held)
    where
      m : Lists
      m = reported_below n l

      held : HoldsLists r.words m
      held = r.same.lists.lists

      then-words : (t : List ℕ) → OwnsSame r.words t m (with_task n reported m) → AreReported (n + 1)
      then-words t same = record { words = t; same = marks-next s r.words t l n r.same same }

      on : (o : Option ℕ) → Finds n m.tasks o → AreReported (n + 1)
      on None none = then-words r.words (no-guest r.words m n held none)
      on (Some a) there = by (is_unreported_word (get_or r.words (a + 21) 0)) refl
        where
          by : (b : Bool) → is_unreported_word (get_or r.words (a + 21) 0) ≡ b → AreReported (n + 1)
          by false e = then-words r.words (nothing-new r.words m n held low a there e)
          by true e = then-words _ (one-new r.words m n held low a there e (set r.words (a + 21) (get_or r.words (a + 21) 0 + 256)) refl)

  each-reported : (k n : ℕ) → 5 ≤ n → 64 ≤ k + n → AreReported n → (t : List ℕ) × HoldsLists t (all_reported l)
  each-reported zero n low high r = (r.words, (marks-end s r.words l n h (omega (arith, high)) r.same).lists.lists)
  each-reported (suc k) n low high r = each-reported k (n + 1) (omega (arith, low)) (omega (arith, high)) (next-reported n low r)

  all-reported : (t : List ℕ) × HoldsLists t (all_reported l)
  all-reported = each-reported 59 5 (omega arith) (omega arith) (record { words = s; same = marks-begin s l h })

-- ---- the turn

pub reporter-valid : (s : List ℕ) (l : Lists) → HoldsLists s l → RunsResident l → l.running ≡ 2 → AreValid (fault_turn s l).lists
reporter-valid s l h r two = on (work l) refl
  where
    on : (ps : List QueuedPacket) → work l ≡ ps → AreValid (fault_turn_from ps s l).lists
    on [] is = finished-valid s l h r
    on (p ∷ ps) is = by (eqb p.address fault_packet) refl
      where
        m : Lists
        m = packet_taken ps l

        valid : eqb p.address fault_packet ≡ true → AreValid m
        valid e = fault_unqueued-valid l p [] ps h.valid (ap (λ i. queue_of (Work i) l) (sym two) ∙ is) (eqb-true p.address fault_packet e)

        by : (b : Bool) → eqb p.address fault_packet ≡ b → AreValid (cond b (reported_turn p ps s l) (request_turn unknown s l)).lists
        by true e =
            let reports = all-reported _ m (left-holds s m [] (valid e) h.size) in
            finished-valid reports.0 (all_reported m) reports.1 (reported-runs m (subst (λ qs. RunsResident (fault_taken_from qs l)) is (taken-runs l r)))
        by false e = request-valid unknown s l h (takes-other l h.valid r two (ap is_fault_first is ∙ e))
