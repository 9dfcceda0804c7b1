-- No task but the running one has the field of one that runs: also after a fault was recorded, and after a turn.
use Rattle.std.proofs.Common.{◌≡◌, ℕ, ◌+◌, Bool, true, false, Err, List, [], ◌∷◌, ◌++◌, map, cond, eqb, refl, sym, ap, ◌∙◌, subst, arith}
use Rattle.std.specs.List.{AllByRecursion}
use Rattle.word_store.specs.declared.registers.Regs.{Regs}
use Rattle.instruction_set.specs.declared.Fault.{Fault}
use Rattle.kernel_lists.specs.PacketQueue.QueueWords.{QueuedPacket}
use Rattle.kernel_model.specs.KernelRecord.Between.{is_unreported}
use Rattle.kernel_model.specs.KernelRecord.Changes.{change_of, queue_of, with_queue, with_tasks, with_work}
use Rattle.kernel_model.specs.KernelRecord.Lists.{Lists}
use Rattle.kernel_model.specs.KernelRecord.Residents.{fault_packet}
use Rattle.kernel_model.specs.KernelRecord.Running.{RunsAs}
use Rattle.kernel_model.specs.KernelRecord.Task.{Task, is_guest_id}
use Rattle.kernel_model.specs.KernelRecord.ValidQueues.Place.{Work}
use Rattle.kernel_model.specs.KernelRecord.ValidTasks.{runs}
use Rattle.kernel_model.specs.KernelDispatch.Dispatch.{CanDispatch}
use Rattle.kernel_calls.specs.PacketCalls.TaskWait.{waiting}
use Rattle.kernel_calls.specs.PacketCalls.PacketMoves.{with_arrived}
use Rattle.resident_tasks.specs.ResidentRequests.Answers.{answered_packet, finished, finished_by}
use Rattle.resident_tasks.specs.ResidentRequests.Requests.{first_request, request_at, taken_from, words_taken_from, work}
use Rattle.resident_tasks.specs.ResidentRequests.Turns.{request_turn, turn_of}
use Rattle.resident_tasks.specs.declared.resident_requests.requests.Request.{Request}
use Rattle.resident_tasks.specs.FaultReporter.FaultTurns.{all_reported, fault_turn, fault_turn_from, packet_taken, reported, reported_turn, unknown}
use Rattle.resident_tasks.specs.FaultReporter.Recorded.{held_with, recorded, sent_where, with_fault}

-- the task with the number runs, and alone has its field
record RunsAlone (n : ℕ) (l : Lists) : Type 0 where
  pub running : l.running ≡ n
  pub field : AllByRecursion (RunsAs n) l.tasks

-- a task that runs after a change ran before
abbrev KeepsRuns : (Task → Task) → Type 0
KeepsRuns f = (t : Task) → ((f t).id ≡ t.id) × ((f t).field ≡ runs → t.field ≡ runs)

map-runs : (n : ℕ) (f : Task → Task) → KeepsRuns f → (l : Lists) → RunsAlone n l → RunsAlone n (with_tasks (map f l.tasks) l)
map-runs n f keeps l a = record { running = a.running; field = each l.tasks a.field }
  where
    each : (ts : List Task) → AllByRecursion (RunsAs n) ts → AllByRecursion (RunsAs n) (map f ts)
    each [] all = tt
    each (t ∷ ts) all = ((λ e. (keeps t).0 ∙ all.0 ((keeps t).1 e)), each ts all.1)

work-runs : (i : ℕ) (qs : List QueuedPacket) → KeepsRuns (with_work i qs)
work-runs i qs t =
    elim (eqb t.id i) as (λ b. ((cond b (record t { queue = qs }) t).id ≡ t.id) × ((cond b (record t { queue = qs }) t).field ≡ runs → t.field ≡ runs)) [ true ↦ (refl, λ e. e) | false ↦ (refl, λ e. e) ]

held-runs : (id : ℕ) (f : Fault) → KeepsRuns (change_of id (with_fault f))
held-runs id f t =
    elim (eqb t.id id) as (λ b. ((cond b (with_fault f t) t).id ≡ t.id) × ((cond b (with_fault f t) t).field ≡ runs → t.field ≡ runs)) [ true ↦ (refl, λ e. e) | false ↦ (refl, λ e. e) ]

reported-keeps : KeepsRuns reported
reported-keeps t =
    elim (is_unreported t) as (λ b. ((cond b (record t { fault = t.fault + 256 }) t).id ≡ t.id) × ((cond b (record t { fault = t.fault + 256 }) t).field ≡ runs → t.field ≡ runs)) [
      | true ↦ (refl, λ e. e)
      | false ↦ (refl, λ e. e)
    ]

waiting-runs : (id : ℕ) → KeepsRuns (change_of id waiting)
waiting-runs id t =
    elim (eqb t.id id) as (λ b. ((cond b (waiting t) t).id ≡ t.id) × ((cond b (waiting t) t).field ≡ runs → t.field ≡ runs)) [ true ↦ (refl, λ e. absurd (omega (arith, e))) | false ↦ (refl, λ e. e) ]

queue-alone : (n : ℕ) (l : Lists) (i : ℕ) (qs : List QueuedPacket) → RunsAlone n l → RunsAlone n (with_queue (Work i) qs l)
queue-alone n l i qs a = (let x = map-runs n (with_work i qs) (work-runs i qs) l a in record { running = a.running; field = x.field })

finished-alone : (n : ℕ) (l : Lists) → RunsAlone n l → RunsAlone n (finished l)
finished-alone n l a = on (work l)
  where
    on : (ps : List QueuedPacket) → RunsAlone n (finished_by ps l)
    on [] = map-runs n (change_of l.running waiting) (waiting-runs l.running) l a
    on (p ∷ ps) = a

recorded-alone : (n : ℕ) (l : Lists) (f : Fault) → RunsAlone n l → RunsAlone n (recorded f l)
recorded-alone n l f a = on l.fault_packet_free
  where
    m : RunsAlone n (held_with f l)
    m = map-runs n (change_of l.running (with_fault f)) (held-runs l.running f) l a

    on : (b : Bool) → RunsAlone n (sent_where b (held_with f l))
    on false = m
    on true = (let x = queue-alone n (held_with f l) 2 _ m in record { running = x.running; field = x.field })

turn-alone : (n : ℕ) (s : List ℕ) (l : Lists) → RunsAlone n l → RunsAlone n (fault_turn s l).lists
turn-alone n s l a = on (work l) refl
  where
    on : (ps : List QueuedPacket) → work l ≡ ps → RunsAlone n (fault_turn_from ps s l).lists
    on [] is = finished-alone n l a
    on (p ∷ ps) is = by (eqb p.address fault_packet)
      where
        taken : RunsAlone n (packet_taken ps l)
        taken = (let x = queue-alone n l 2 ps a in record { running = x.running; field = x.field })

        z : List ℕ
        z = words_taken_from (p ∷ ps) s l

        q : Request
        q = request_at z p.address

        m : Lists
        m = with_queue (Work l.running) ps l

        refused : RunsAlone n (finished (with_arrived (Work q.sender) (answered_packet m q (Err 31)) m))
        refused =
            finished-alone n (with_arrived (Work q.sender) (answered_packet m q (Err 31)) m)
            (queue-alone n m q.sender (queue_of (Work q.sender) m ++ answered_packet m q (Err 31) ∷ []) (queue-alone n l l.running ps a))

        by : (b : Bool) → RunsAlone n (cond b (reported_turn p ps s l) (request_turn unknown s l)).lists
        by true = finished-alone n (all_reported (packet_taken ps l)) (map-runs n reported reported-keeps (packet_taken ps l) taken)
        by false =
            subst (λ qs. RunsAlone n (turn_of (first_request (words_taken_from qs s l) qs) (unknown (words_taken_from qs s l) (taken_from qs l).lists) s l).lists) (sym is)
            (subst (λ qs. RunsAlone n (finished (with_arrived (Work q.sender) (answered_packet (taken_from qs l).lists q (Err 31)) (taken_from qs l).lists))) (sym is) refused)

can-dispatch : (l m : Lists) (r : Regs) → CanDispatch l r → RunsAlone l.running m → CanDispatch m r
can-dispatch l m r c a =
    record {
      field = subst (λ n. AllByRecursion (RunsAs n) m.tasks) (sym a.running) a.field;
      registers = record { byte = c.registers.byte; idle = λ e. c.registers.idle (sym (ap is_guest_id a.running) ∙ e) };
    }

pub recorded-dispatch : (l : Lists) (f : Fault) (r : Regs) → CanDispatch l r → CanDispatch (recorded f l) r
recorded-dispatch l f r c = can-dispatch l (recorded f l) r c (recorded-alone l.running l f (record { running = refl; field = c.field }))

pub turn-dispatch : (s : List ℕ) (l : Lists) (r : Regs) → CanDispatch l r → CanDispatch (fault_turn s l).lists r
turn-dispatch s l r c = can-dispatch l (fault_turn s l).lists r c (turn-alone l.running s l (record { running = refl; field = c.field }))
