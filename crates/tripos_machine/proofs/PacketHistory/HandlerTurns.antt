-- The turn of a handler leaves valid lists, and so does the end of any resident's turn.
use Rattle.std.proofs.Common.{◌≡◌, ℕ, ◌+◌, get_or, Result, List, [], ◌∷◌, inl, inr, refl, sym, subst}
use Rattle.std.specs.List.{AllByRecursion}
use Rattle.std.proofs.lemmas.Bool.{cases_eq}
use Rattle.kernel_lists.specs.PacketQueue.QueueWords.{QueuedPacket}
use Rattle.kernel_model.specs.KernelRecord.Changes.{with_queue}
use Rattle.kernel_model.specs.KernelRecord.HoldsLists.{HoldsLists}
use Rattle.kernel_model.specs.KernelRecord.Lists.{Lists, address_of_task}
use Rattle.kernel_model.specs.KernelRecord.ValidLists.{AreValid}
use Rattle.kernel_model.specs.KernelRecord.ValidQueues.{IsValidPacket}
use Rattle.kernel_model.specs.KernelRecord.ValidQueues.Place.{Work}
use Rattle.kernel_model.proofs.KernelRecord.QueuePlaces.{valid-at-place}
use Rattle.kernel_calls.specs.PacketCalls.Destinations.{queue_for}
use Rattle.kernel_calls.specs.PacketCalls.QueueWords.{unqueued}
use Rattle.resident_tasks.specs.ResidentRequests.Answers.{answered, finished, returned}
use Rattle.resident_tasks.specs.ResidentRequests.Requests.{IsForeign, RunsResident, TakesRequest, first_request, request_at, taken_from, words_taken_from, work}
use Rattle.resident_tasks.specs.ResidentRequests.Turns.{Served, request_turn, turn_of}
use Rattle.resident_tasks.specs.declared.resident_requests.requests.Request.{Request}
use Rattle.resident_tasks.proofs.ResidentRequests.FinishedTurn.{goes-on, waits}
use Rattle.tripos_machine.proofs.PacketHistory.LeftStores.{left-holds}
use Rattle.tripos_machine.proofs.PacketHistory.TakenPackets.{returned-runs, returned-valid}

-- a resident waits, or goes on
pub finished-valid : (s : List ℕ) (l : Lists) → HoldsLists s l → RunsResident l → AreValid (finished l)
finished-valid s l h r =
    let t : ℕ = address_of_task l l.running in
    elim (cases_eq (get_or s (t + 3) 0) 0) [
      | inl none ↦ (waits s l h r t refl none _ refl).lists.lists.valid
      | inr some ↦ (goes-on s l h r t refl some).lists.lists.valid
    ]

pub request-valid : (serve : List ℕ → Lists → Request → Served) (s : List ℕ) (l : Lists) → HoldsLists s l → TakesRequest l → AreValid (request_turn serve s l).lists
request-valid serve s l h t = on (work l) refl t.foreign
  where
    on : (ps : List QueuedPacket) → work l ≡ ps → IsForeign l ps
        → AreValid (turn_of (first_request (words_taken_from ps s l) ps) (serve (words_taken_from ps s l) (taken_from ps l).lists) s l).lists
    on [] is foreign = finished-valid s l h t.runs
    on (p ∷ ps) is foreign =
        let z : List ℕ = unqueued s (queue_for l (Work l.running)) p.address in
        let r : Request = request_at z p.address in
        let m : Lists = with_queue (Work l.running) ps l in
        let answer : Result ℕ ℕ = (serve z m r).answer in
        let valid-packet : IsValidPacket l (Work l.running) p = (subst (AllByRecursion (IsValidPacket l (Work l.running))) is (valid-at-place l (Work l.running) h.valid t.runs.there)).0 in
        let from = valid-packet.sender foreign.0 t.runs.resident in
        let back : Lists = (returned m r answer).lists in
        let valid : AreValid back = returned-valid s l h (Work l.running) p ps is foreign.0 foreign.1 from t.runs answer in
        subst (λ y. AreValid (answered (taken_from y l).lists r answer).lists) (sym is)
        (finished-valid _ back (left-holds s back [] valid h.size) (returned-runs s l h (Work l.running) p ps is foreign.0 foreign.1 from t.runs answer))
