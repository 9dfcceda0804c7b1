-- What a resident's turn keeps that answers a request: who runs, and the rules of residents.
use Rattle.std.proofs.Common.{◌≡◌, ℕ, ◌&&◌, ◌++◌, true, false, Result, List, [], ◌∷◌, eqb, refl, sym, ap, ◌∙◌, subst}
use Rattle.std.specs.List.{AllByRecursion}
use Rattle.kernel_lists.specs.PacketQueue.QueueWords.{QueuedPacket}
use Rattle.kernel_model.specs.KernelRecord.Changes.{queue_of, with_queue}
use Rattle.kernel_model.specs.KernelRecord.Lists.{Lists, has_task}
use Rattle.kernel_model.specs.KernelRecord.Residents.{fault_packet}
use Rattle.kernel_model.specs.KernelRecord.ValidQueues.{is_fault_packet}
use Rattle.kernel_model.specs.KernelRecord.ValidQueues.Place.{Work}
use Rattle.kernel_calls.specs.PacketCalls.TaskWait.{waiting}
use Rattle.resident_tasks.specs.ResidentRequests.Answers.{answered, answered_packet, finished, finished_by, returned}
use Rattle.resident_tasks.specs.ResidentRequests.Requests.{IsForeign, TakesRequest, first_request, request_at, taken, taken_from, words_taken, words_taken_from, work}
use Rattle.resident_tasks.specs.ResidentRequests.Turns.{Served, request_turn, turn_of}
use Rattle.resident_tasks.specs.declared.resident_requests.requests.Request.{Request}
use Rattle.guest_turns.specs.GuestTurn.{Numbers}
use Rattle.guest_turns.proofs.RunningField.{RunsIn, one-runs, queue-runs}
use Rattle.resident_tasks.proofs.FaultReporter.FaultsKept.{there-same, work-keeps}
use Rattle.kernel_machine.proofs.KernelSteps.CallRules.{KeepsRules, keeps-none, one-keeps, queue-keeps}
use Rattle.kernel_machine.proofs.KernelSteps.FaultRule.{arrived-rule, left-rule}

pub keeps-then : (l m n : Lists) → KeepsRules l m → KeepsRules m n → KeepsRules l n
keeps-then l m n one two = record { faults = λ h. two.faults (one.faults h); key = two.key ∙ one.key; pending = λ e. two.pending (one.pending e) }

-- ---- a turn ends

pub finished-runs : (nums : Numbers) (l : Lists) → RunsIn nums l → RunsIn nums (finished l)
finished-runs nums l h = on (work l)
  where
    on : (ps : List QueuedPacket) → RunsIn nums (finished_by ps l)
    on [] = one-runs nums l l.running waiting (λ t one e. cc) h
    on (p ∷ ps) = h

pub finished-keeps : (l : Lists) → KeepsRules l (finished l)
finished-keeps l = on (work l)
  where
    on : (ps : List QueuedPacket) → KeepsRules l (finished_by ps l)
    on [] = one-keeps l l.running waiting (record { id = λ t. refl; fault = λ t. refl; queue = λ t. refl })
    on (p ∷ ps) = keeps-none l

-- ---- a request is answered

-- what holds of the lists that such a turn leaves
pub request-lists : (P : Lists → Type 0) (l : Lists) → P (finished l)
    → ((p : QueuedPacket) (ps : List QueuedPacket) → work l ≡ p ∷ ps → (r : Request) → r.packet ≡ p.address → (answer : Result ℕ ℕ) → P (answered (with_queue (Work l.running) ps l) r answer).lists)
    → (serve : List ℕ → Lists → Request → Served) (s : List ℕ) → P (request_turn serve s l).lists
request-lists P l idle served serve s = on (work l) refl
  where
    on : (ps : List QueuedPacket) → work l ≡ ps → P (turn_of (first_request (words_taken_from ps s l) ps) (serve (words_taken s l) (taken l).lists) s l).lists
    on [] is = idle
    on (p ∷ ps) is =
        let r : Request = request_at (words_taken_from (p ∷ ps) s l) p.address in
        let w : Served = serve (words_taken s l) (taken l).lists r in
        subst (λ qs. P (answered (taken_from qs l).lists r w.answer).lists) (sym is) (served p ps is r refl w.answer)

pub request-runs : (nums : Numbers) (l : Lists) → RunsIn nums l → (serve : List ℕ → Lists → Request → Served) (s : List ℕ) → RunsIn nums (request_turn serve s l).lists
request-runs nums l h =
    request-lists (RunsIn nums) l (finished-runs nums l h)
    (λ p ps is r same answer.
    let m : Lists = with_queue (Work l.running) ps l in
    finished-runs nums (returned m r answer).lists
    (queue-runs nums m (Work r.sender) (queue_of (Work r.sender) m ++ answered_packet m r answer ∷ []) (queue-runs nums l (Work l.running) ps h)))

-- a request goes back to its sender, and is not the fault packet
pub returned-keeps : (m : Lists) (r : Request) (answer : Result ℕ ℕ) → (has_task 2 m.tasks ≡ true → eqb r.packet fault_packet ≡ false) → KeepsRules m (returned m r answer).lists
returned-keeps m r answer other =
    queue-keeps m (Work r.sender) (queue_of (Work r.sender) m ++ answered_packet m r answer ∷ []) (arrived-rule m (Work r.sender) (answered_packet m r answer) other) (λ e. cc)

-- the packets behind the first
pub rest-keeps : (l : Lists) (p : QueuedPacket) (ps : List QueuedPacket) → work l ≡ p ∷ ps → KeepsRules l (with_queue (Work l.running) ps l)
rest-keeps l p ps is = queue-keeps l (Work l.running) ps (left-rule l (Work l.running) ps (λ P all. (subst (AllByRecursion P) is all).1)) (λ e. cc)

pub not-fault : (l : Lists) (p : QueuedPacket) → is_fault_packet l p ≡ false → has_task 2 l.tasks ≡ true → eqb p.address fault_packet ≡ false
not-fault l p none there = sym (ap (λ b. b && eqb p.address fault_packet) there) ∙ none

pub request-keeps : (l : Lists) → TakesRequest l → (serve : List ℕ → Lists → Request → Served) (s : List ℕ) → KeepsRules l (request_turn serve s l).lists
request-keeps l takes =
    request-lists (KeepsRules l) l (finished-keeps l)
    (λ p ps is r same answer.
    let m : Lists = with_queue (Work l.running) ps l in
    let foreign : IsForeign l (p ∷ ps) = subst (IsForeign l) is takes.foreign in
    let other : has_task 2 m.tasks ≡ true → eqb r.packet fault_packet ≡ false =
    λ there. ap (λ a. eqb a fault_packet) same ∙ not-fault l p foreign.1 (sym (there-same _ (work-keeps l.running ps) 2 l.tasks) ∙ there)
    in
    keeps-then l m (finished (returned m r answer).lists) (rest-keeps l p ps is) (keeps-then m (returned m r answer).lists (finished (returned m r answer).lists) (returned-keeps m r answer other) (finished-keeps (returned m r answer).lists)))
