-- The turn of a handler.
use Rattle.std.proofs.Common.{◌≡◌, ℕ, Result, List, [], ◌∷◌, ◌++◌, refl, sym, subst}
use Rattle.std.specs.List.{AllByRecursion}
use Rattle.word_store.specs.Arithmetic.{signed}
use Rattle.kernel_lists.specs.PacketQueue.QueueWords.{QueuedPacket}
use Rattle.kernel_lists.specs.declared.packet_queue.events.KernelEvent.{KernelEvent}
use Rattle.kernel_lists.specs.declared.packet_queue.events.KernelEvent.TheVariants.{Taken}
use Rattle.kernel_model.specs.KernelRecord.Changes.{with_queue}
use Rattle.kernel_model.specs.KernelRecord.HoldsLists.{HoldsLists}
use Rattle.kernel_model.specs.KernelRecord.Lists.{Lists}
use Rattle.kernel_model.specs.KernelRecord.ValidQueues.{IsValidPacket}
use Rattle.kernel_model.specs.KernelRecord.ValidQueues.Place.{Work}
use Rattle.kernel_model.proofs.KernelRecord.QueuePlaces.{valid-at-place}
use Rattle.kernel_calls.specs.PacketCalls.Destinations.{queue_for}
use Rattle.kernel_calls.specs.PacketCalls.QueueWords.{unqueued}
use Rattle.kernel_calls.specs.PacketCalls.TaskWait.{waiting}
use Rattle.resident_tasks.specs.ResidentRequests.Answers.{answered, finished, finished_by, returned}
use Rattle.resident_tasks.specs.ResidentRequests.Requests.{IsForeign, TakesRequest, first_request, request_at, taken_from, words_taken_from, work}
use Rattle.resident_tasks.specs.ResidentRequests.Turns.{ResidentTurn, Served, request_turn, turn_of}
use Rattle.resident_tasks.specs.declared.resident_requests.requests.Request.{Request}
use Rattle.tripos_machine.specs.PacketHistory.Queues.{ledger_of}
use Rattle.tripos_machine.proofs.PacketHistory.Ledgers.{ledger-task}
use Rattle.tripos_machine.proofs.PacketHistory.Moves.{low-named}
use Rattle.tripos_machine.proofs.PacketHistory.SentEvents.{low-clock}
use Rattle.tripos_machine.proofs.PacketHistory.ValidLedgers.{IsNumber, task-number}
use Rattle.tripos_machine.proofs.PacketHistory.TakenMoves.{MovesInTurn, none-moved, returned-moves, same-moved}
use Rattle.kernel_model.proofs.KernelDispatch.TakenWork.{signed-low}

-- at its end a turn moves nothing
pub finished-same : (l : Lists) → ledger_of (finished l) ≡ ledger_of l
finished-same l = on (work l)
  where
    on : (ps : List QueuedPacket) → ledger_of (finished_by ps l) ≡ ledger_of l
    on [] = ledger-task l l.running waiting (λ t. (refl, refl))
    on (p ∷ ps) = refl

-- a turn that leaves this
abbrev pub TurnMoves : (KernelEvent → ℕ) → Lists → ResidentTurn → Type 0
TurnMoves due l m = MovesInTurn due (signed l.running) l m.events m.lists

pub request-moves : (due : KernelEvent → ℕ) (serve : List ℕ → Lists → Request → Served) (s : List ℕ) (l : Lists) → HoldsLists s l → TakesRequest l → TurnMoves due l (request_turn serve s l)
request-moves due serve s l h t = on (work l) refl t.foreign
  where
    low : IsNumber l.running
    low = task-number l h.valid l.running t.runs.there

    on : (ps : List QueuedPacket) → work l ≡ ps → IsForeign l ps
        → TurnMoves due l (turn_of (first_request (words_taken_from ps s l) ps) (serve (words_taken_from ps s l) (taken_from ps l).lists) s l)
    on [] is foreign = none-moved due (signed l.running) l (finished l) (finished-same l)
    on (p ∷ ps) is foreign =
        let z : List ℕ = unqueued s (queue_for l (Work l.running)) p.address in
        let r : Request = request_at z p.address in
        let m : Lists = with_queue (Work l.running) ps l in
        let answer : Result ℕ ℕ = (serve z m r).answer in
        let valid-packet : IsValidPacket l (Work l.running) p = (subst (AllByRecursion (IsValidPacket l (Work l.running))) is (valid-at-place l (Work l.running) h.valid t.runs.there)).0 in
        let back : Lists = (returned m r answer).lists in
        subst (λ qs. MovesInTurn due (signed l.running) l ((taken_from qs l).events ++ (answered (taken_from qs l).lists r answer).events) (answered (taken_from qs l).lists r answer).lists) (sym is)
        (same-moved due (signed l.running) l back (finished back) (Taken (signed l.running) p.address (signed p.sender) ∷ (returned m r answer).events) (finished-same back)
        (returned-moves due (signed l.running) s l h (Work l.running) p ps is (low-named l.running low.high) (signed l.running) (signed-low l.running low.high) (low-clock l.running low.high)
        (valid-packet.sender foreign.0 t.runs.resident) refl refl answer))
