-- A fault is recorded, and reported.
use Rattle.std.proofs.Common.{◌≡◌, ℕ, ◌+◌, ◌&&◌, not, Bool, true, false, cond, eqb, List, [], ◌∷◌, map, refl, sym, ap, ◌∙◌, subst, arith}
use Rattle.std.proofs.lemmas.Bool.{eqb-true}
use Rattle.word_store.specs.Arithmetic.{signed}
use Rattle.instruction_set.specs.declared.Fault.{Fault}
use Rattle.kernel_lists.specs.PacketQueue.QueueWords.{QueuedPacket}
use Rattle.kernel_lists.specs.declared.packet_queue.events.KernelEvent.{KernelEvent}
use Rattle.kernel_lists.specs.declared.packet_queue.events.KernelEvent.TheVariants.{Accepted, Taken}
use Rattle.kernel_model.specs.KernelRecord.Between.{is_unreported}
use Rattle.kernel_model.specs.KernelRecord.Changes.{queue_of, with_queue, work_of}
use Rattle.kernel_model.specs.KernelRecord.HoldsLists.{HoldsLists}
use Rattle.kernel_model.specs.KernelRecord.Lists.{Lists, has_task, is_queued}
use Rattle.kernel_model.specs.KernelRecord.Residents.{fault_packet}
use Rattle.kernel_model.specs.KernelRecord.Task.{Task}
use Rattle.kernel_model.specs.KernelRecord.ValidLists.{AreValid}
use Rattle.kernel_model.specs.KernelRecord.ValidQueues.Place.{Work}
use Rattle.kernel_model.specs.declared.kernel_record.numbers.TheConstants.{REPORTER}
use Rattle.kernel_calls.specs.PacketCalls.PacketMoves.{with_arrived}
use Rattle.resident_tasks.specs.ResidentRequests.Answers.{finished}
use Rattle.resident_tasks.specs.ResidentRequests.Requests.{RunsResident, work}
use Rattle.resident_tasks.specs.ResidentRequests.Turns.{request_turn}
use Rattle.resident_tasks.specs.FaultReporter.FaultTurns.{all_reported, fault_turn, fault_turn_from, is_fault_first, packet_taken, reported, reported_turn, unknown}
use Rattle.resident_tasks.specs.FaultReporter.Recorded.{events_where, held_with, packet_from, recorded, recorded_events, sent_where, with_fault}
use Rattle.resident_tasks.proofs.FaultReporter.HeldGuest.{held-reporter}
use Rattle.resident_tasks.proofs.FaultReporter.ReportedTurn.{takes-other}
use Rattle.tripos_machine.specs.EventHistory.Ledger.{IsNowhere}
use Rattle.tripos_machine.specs.PacketHistory.Queues.{ledger_of}
use Rattle.tripos_machine.proofs.PacketHistory.FirstTaken.{TakesReads}
use Rattle.tripos_machine.proofs.PacketHistory.Ledgers.{ledger-same, ledger-task}
use Rattle.tripos_machine.proofs.PacketHistory.Moves.{low-named, move-accepted, moves-from, moves-same}
use Rattle.tripos_machine.proofs.PacketHistory.SentEvents.{low-clock, turn-accepted}
use Rattle.tripos_machine.proofs.PacketHistory.FreePackets.{unqueued-nowhere}
use Rattle.tripos_machine.proofs.PacketHistory.RequestMoves.{TurnMoves, finished-same, request-moves}
use Rattle.tripos_machine.proofs.PacketHistory.TakenMoves.{MovesInTurn, none-moved, same-moved, taken-moves}
use Rattle.kernel_model.proofs.KernelDispatch.TakenWork.{signed-low}

-- ---- the reporter's turn

work-reported : (n : ℕ) (ts : List Task) → work_of n (map reported ts) ≡ work_of n ts
work-reported n [] = refl
work-reported n (t ∷ ts) = λ i. cond (eqb (number (is_unreported t) i) n) (packets (is_unreported t) i) (work-reported n ts i)
  where
    number : (b : Bool) → (cond b (record t { fault = t.fault + 256 }) t).id ≡ t.id
    number true = refl
    number false = refl

    packets : (b : Bool) → (cond b (record t { fault = t.fault + 256 }) t).queue ≡ t.queue
    packets true = refl
    packets false = refl

reported-same : (l : Lists) → ledger_of (all_reported l) ≡ ledger_of l
reported-same l = ledger-same l (all_reported l) (λ n. work-reported n l.tasks) refl refl refl refl

pub reporter-moves : (due : KernelEvent → ℕ) (s : List ℕ) (l : Lists) → HoldsLists s l → RunsResident l → l.running ≡ REPORTER → TurnMoves due l (fault_turn s l)
reporter-moves due s l h r two = on (work l) refl
  where
    queue : (ps : List QueuedPacket) → work l ≡ ps → queue_of (Work 2) l ≡ ps
    queue ps is = ap (λ i. queue_of (Work i) l) (sym two) ∙ is

    on : (ps : List QueuedPacket) → work l ≡ ps → TurnMoves due l (fault_turn_from ps s l)
    on [] is = none-moved due (signed l.running) l (finished l) (finished-same l)
    on (p ∷ ps) is = by (eqb p.address fault_packet) refl
      where
        q : Lists
        q = with_queue (Work 2) ps l

        by : (b : Bool) → eqb p.address fault_packet ≡ b → TurnMoves due l (cond b (reported_turn p ps s l) (request_turn unknown s l))
        by true e =
            same-moved due (signed l.running) l q (finished (all_reported (packet_taken ps l))) (Taken (signed 2) fault_packet (signed p.sender) ∷ [])
            (finished-same (all_reported (packet_taken ps l)) ∙ reported-same (packet_taken ps l) ∙ ledger-same q (packet_taken ps l) (λ n. refl) refl refl refl refl)
            (subst (λ a. MovesInTurn due (signed l.running) l (Taken (signed 2) a (signed p.sender) ∷ []) q) (eqb-true p.address fault_packet e)
            (taken-moves due (signed l.running) s l h (Work 2) p ps (queue (p ∷ ps) is) (low-named 2 (omega arith)) (signed 2) (signed-low 2 (omega arith)) (low-clock 2 (omega arith))))
        by false e = request-moves due unknown s l h (takes-other l h.valid r two (ap is_fault_first is ∙ e))

-- ---- a fault of the running task is recorded

pub recorded-moves : (due : KernelEvent → ℕ) (f : Fault) (l : Lists) → AreValid l → has_task REPORTER l.tasks ≡ true → MovesInTurn due (signed l.running) l (recorded_events f l) (recorded f l)
recorded-moves due f l v two = record { moves = moves-from due l m (recorded f l) (recorded_events f l) same (on l.fault_packet_free refl).moves; turn = (on l.fault_packet_free refl).turn; takes = (on l.fault_packet_free refl).takes }
  where
    m : Lists
    m = held_with f l

    same : ledger_of m ≡ ledger_of l
    same = ledger-task l l.running (with_fault f) (λ t. (refl, refl))

    off : (b c : Bool) → true ≡ (b && not c) → c ≡ false
    off true true e = cc
    off true false e = refl
    off false c e = cc

    on : (b : Bool) → l.fault_packet_free ≡ b → MovesInTurn due (signed l.running) m (events_where b m) (sent_where b m)
    on false free = none-moved due (signed l.running) m m refl
    on true free =
        let p : QueuedPacket = packet_from l.running in
        let nowhere : IsNowhere fault_packet (ledger_of m) = subst (IsNowhere fault_packet) (sym same) (unqueued-nowhere l v fault_packet (off (has_task 2 l.tasks) (is_queued fault_packet l) (sym free ∙ v.queues.fault))) in
        record {
          moves =
              moves-same due m (with_arrived (Work 2) p m) (sent_where true m) (Accepted (signed 2) fault_packet (signed l.running) ∷ [])
              (ledger-same (with_arrived (Work 2) p m) (sent_where true m) (λ n. refl) refl refl refl refl)
              (move-accepted due m (Work 2) p (held-reporter l f two) (low-named 2 (omega arith)) nowhere tt);
          turn = turn-accepted (signed l.running) (signed 2) fault_packet refl;
          takes = tt;
        }

-- and nothing is taken
pub recorded-reads : (f : Fault) (l : Lists) → TakesReads (recorded_events f l)
recorded-reads f l = on l.fault_packet_free
  where
    on : (b : Bool) → TakesReads (events_where b (held_with f l))
    on true = (tt, tt)
    on false = tt
