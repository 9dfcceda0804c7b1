-- The events of a run are a history of the queues, where those of each step are.
use Rattle.std.proofs.Common.{◌≡◌, ℕ, zero, suc, List, [], ◌∷◌, ◌++◌, refl, ap, ◌∙◌}
use Rattle.kernel_lists.specs.declared.packet_queue.events.KernelEvent.{KernelEvent}
use Rattle.kernel_model.specs.KernelRecord.Kernel.{Kernel}
use Rattle.kernel_model.specs.KernelRecord.ValidLists.{AreValid}
use Rattle.kernel_machine.specs.KernelSteps.Step.{run, step}
use Rattle.tripos_machine.specs.EventHistory.Ledger.{Follows, Timed, events_of}
use Rattle.tripos_machine.specs.EventHistory.QueueHistory.{QueueHistory}
use Rattle.tripos_machine.proofs.EventHistory.Following.{follows-join}
use Rattle.tripos_machine.proofs.EventHistory.Whole.{whole-history}
use Rattle.tripos_machine.specs.PacketHistory.Queues.{ledger_of, timed_by}
use Rattle.tripos_machine.proofs.PacketHistory.ValidLedgers.{valid-falls, valid-once}
use Rattle.tripos_machine.specs.PacketHistory.Steps.{EachStep, StepMoves, due_in, history, timed_step}

pub events-join : (xs ys : List Timed) → events_of (xs ++ ys) ≡ events_of xs ++ events_of ys
events-join [] ys = refl
events-join (x ∷ xs) ys = ap (λ z. x.event ∷ z) (events-join xs ys)

pub events-timed : (due : KernelEvent → ℕ) (es : List KernelEvent) → events_of (timed_by due es) ≡ es
events-timed due [] = refl
events-timed due (e ∷ es) = ap (λ z. e ∷ z) (events-timed due es)

pub history-events : (n : ℕ) (k : Kernel) → events_of (history n k) ≡ (run n k).events
unfolding run
history-events zero k = refl
history-events (suc n) k =
    events-join (timed_step k) (history n (step k).kernel) ∙ (λ i. events-timed (due_in k) (step k).events i ++ history-events n (step k).kernel i)

pub run-follows : (n : ℕ) (k : Kernel) → EachStep StepMoves n k → Follows (history n k) (ledger_of k.lists) (ledger_of (run n k).kernel.lists)
unfolding run
run-follows zero k each = refl
run-follows (suc n) k each =
    follows-join (timed_step k) (history n (step k).kernel) (ledger_of k.lists) (ledger_of (step k).kernel.lists) (ledger_of (run n (step k).kernel).kernel.lists) each.0 (run-follows n (step k).kernel each.1)

pub run-history : (n : ℕ) (k : Kernel) → AreValid k.lists → EachStep StepMoves n k → QueueHistory (ledger_of k.lists) (history n k) (ledger_of (run n k).kernel.lists)
run-history n k v each =
    whole-history (history n k) (ledger_of k.lists) (ledger_of (run n k).kernel.lists) (valid-once k.lists v) (valid-falls k.lists v) (run-follows n k each)
