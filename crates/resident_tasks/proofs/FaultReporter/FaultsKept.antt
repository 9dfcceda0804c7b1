-- The fault packet waits exactly where some fault was not reported yet: after a fault was recorded, and after a turn.
use Rattle.std.proofs.Common.{◌≡◌, ℕ, ◌+◌, ◌&&◌, ◌||◌, Bool, true, false, not, Err, List, [], ◌∷◌, ◌++◌, map, cond, eqb, leb, ltb, refl, sym, ap, ◌∙◌, subst, arith}
use Rattle.std.specs.List.{AllByRecursion, list_any}
use Rattle.std.proofs.lemmas.Bool.{and_from, and_parts, eq-eqb, eqb-true, false≢true, le-leb, lt-ltb, ltb-true, or_left, or_right}
use Rattle.std.proofs.Math.Bool.{and-false}
use Rattle.instruction_set.specs.declared.Fault.{Fault}
use Rattle.word_store.proofs.Elements.{all-append}
use Rattle.kernel_lists.specs.PacketQueue.QueueWords.{QueuedPacket}
use Rattle.kernel_model.specs.KernelRecord.Between.{AreValidFaults, Tells, has_unreported, is_unreported}
use Rattle.kernel_model.specs.KernelRecord.Changes.{change_of, queue_of, with_queue, with_tasks, with_work, work_of}
use Rattle.kernel_model.specs.KernelRecord.Lists.{Lists, has_task}
use Rattle.kernel_model.specs.KernelRecord.Residents.{fault_packet}
use Rattle.kernel_model.specs.KernelRecord.Task.{Task, is_guest_id}
use Rattle.kernel_model.specs.KernelRecord.ValidLists.{AreValid}
use Rattle.kernel_model.specs.KernelRecord.ValidQueues.Place.{Work}
use Rattle.kernel_model.specs.KernelRecord.ValidTasks.{IsRecordedFault}
use Rattle.kernel_model.proofs.KernelRecord.ResidentPackets.{fault_unqueued-valid}
use Rattle.kernel_calls.specs.PacketCalls.TaskWait.{waiting}
use Rattle.kernel_calls.specs.PacketCalls.PacketMoves.{is_on_queue, with_arrived}
use Rattle.resident_tasks.specs.ResidentRequests.Answers.{answered_packet, finished, finished_by}
use Rattle.resident_tasks.specs.ResidentRequests.Requests.{RunsResident, first_request, request_at, taken_from, words_taken_from, work}
use Rattle.resident_tasks.specs.ResidentRequests.Turns.{request_turn, turn_of}
use Rattle.resident_tasks.specs.declared.resident_requests.requests.Request.{Request}
use Rattle.resident_tasks.specs.FaultReporter.FaultTurns.{all_reported, fault_turn, fault_turn_from, packet_taken, reported, reported_turn, unknown}
use Rattle.resident_tasks.specs.FaultReporter.Recorded.{CanRecord, held_with, packet_from, recorded, sent_where, with_fault}
use Rattle.resident_tasks.proofs.FaultReporter.FaultPacket.{free-is}

-- whether a guest with a number has a fault that was not reported
abbrev HasNew : ℕ → Task → Bool
HasNew id t = eqb t.id id && is_guest_id id && is_unreported t

-- ---- tasks that stay as they are in number and fault

abbrev pub KeepsFault : (Task → Task) → Type 0
KeepsFault f = (t : Task) → ((f t).id ≡ t.id) × ((f t).fault ≡ t.fault)

any-same : (g : Task → Bool) (f : Task → Task) → ((t : Task) → g (f t) ≡ g t) → (ts : List Task) → list_any g (map f ts) ≡ list_any g ts
any-same g f each [] = refl
any-same g f each (t ∷ ts) = λ i. each t i || any-same g f each ts i

module _ (f : Task → Task) (keeps : KeepsFault f) where
  new-same : (t : Task) → is_unreported (f t) ≡ is_unreported t
  new-same t = ap (λ n. leb 1 n && ltb n 256) (keeps t).1

  pub any-new : (ts : List Task) → list_any is_unreported (map f ts) ≡ list_any is_unreported ts
  any-new ts = any-same is_unreported f new-same ts

  pub there-same : (id : ℕ) (ts : List Task) → has_task id (map f ts) ≡ has_task id ts
  there-same id ts = any-same (λ t. eqb t.id id) f (λ t. ap (λ n. eqb n id) (keeps t).0) ts

  has-new : (id : ℕ) (ts : List Task) → has_unreported id (map f ts) ≡ has_unreported id ts
  has-new id ts = any-same (HasNew id) f (λ t i. eqb ((keeps t).0 i) id && is_guest_id id && new-same t i) ts

  pub tells-same : (ts : List Task) (ps : List QueuedPacket) → AllByRecursion (Tells ts) ps → AllByRecursion (Tells (map f ts)) ps
  tells-same ts [] all = tt
  tells-same ts (p ∷ ps) all = ((λ e. has-new p.sender ts ∙ all.0 e), tells-same ts ps all.1)

work-same : (f : Task → Task) → ((t : Task) → ((f t).id ≡ t.id) × ((f t).queue ≡ t.queue)) → (id : ℕ) (ts : List Task) → work_of id (map f ts) ≡ work_of id ts
work-same f keeps id [] = refl
work-same f keeps id (t ∷ ts) = λ i. cond (eqb ((keeps t).0 i) id) ((keeps t).1 i) (work-same f keeps id ts i)

-- where queues stay too, all holds as before
pub map-faults : (l : Lists) (f : Task → Task) → KeepsFault f → ((t : Task) → ((f t).id ≡ t.id) × ((f t).queue ≡ t.queue)) → AreValidFaults l → AreValidFaults (with_tasks (map f l.tasks) l)
map-faults l f keeps queues h =
    record {
      waits = λ there. h.waits (sym (there-same f keeps 2 l.tasks) ∙ there) ∙ ap not (sym (any-new f keeps l.tasks));
      sender = subst (AllByRecursion (Tells (map f l.tasks))) (sym (work-same f queues 2 l.tasks)) (tells-same f keeps l.tasks (work_of 2 l.tasks) h.sender);
    }

-- ---- queues

pub work-keeps : (i : ℕ) (qs : List QueuedPacket) → KeepsFault (with_work i qs)
work-keeps i qs t =
    elim (eqb t.id i) as (λ b. ((cond b (record t { queue = qs }) t).id ≡ t.id) × ((cond b (record t { queue = qs }) t).fault ≡ t.fault)) [ true ↦ (refl, refl) | false ↦ (refl, refl) ]

work-all : (P : QueuedPacket → Type 0) (i : ℕ) (qs : List QueuedPacket) (ts : List Task) → (i ≡ 2 → AllByRecursion P qs) → AllByRecursion P (work_of 2 ts) → AllByRecursion P (work_of 2 (map (with_work i qs) ts))
work-all P i qs [] new all = tt
work-all P i qs (t ∷ ts) new all = on (eqb t.id i) (eqb t.id 2) refl refl all (work-all P i qs ts new)
  where
    on : (b d : Bool) → eqb t.id i ≡ b → eqb t.id 2 ≡ d → AllByRecursion P (cond d t.queue (work_of 2 ts)) → (AllByRecursion P (work_of 2 ts) → AllByRecursion P (work_of 2 (map (with_work i qs) ts)))
        → AllByRecursion P (cond (eqb (cond b (record t { queue = qs }) t).id 2) (cond b (record t { queue = qs }) t).queue (work_of 2 (map (with_work i qs) ts)))
    on true true e f all more = subst (λ b. AllByRecursion P (cond b qs (work_of 2 (map (with_work i qs) ts)))) (sym f) (new (sym (eqb-true t.id i e) ∙ eqb-true t.id 2 f))
    on true false e f all more = subst (λ b. AllByRecursion P (cond b qs (work_of 2 (map (with_work i qs) ts)))) (sym f) (more all)
    on false true e f all more = subst (λ b. AllByRecursion P (cond b t.queue (work_of 2 (map (with_work i qs) ts)))) (sym f) all
    on false false e f all more = subst (λ b. AllByRecursion P (cond b t.queue (work_of 2 (map (with_work i qs) ts)))) (sym f) (more all)

queue-sender : (l : Lists) (i : ℕ) (qs : List QueuedPacket) → (i ≡ 2 → AllByRecursion (Tells l.tasks) qs) → AllByRecursion (Tells l.tasks) (work_of 2 l.tasks)
    → AllByRecursion (Tells (map (with_work i qs) l.tasks)) (work_of 2 (map (with_work i qs) l.tasks))
queue-sender l i qs new all =
    tells-same (with_work i qs) (work-keeps i qs) l.tasks (work_of 2 (map (with_work i qs) l.tasks)) (work-all (Tells l.tasks) i qs l.tasks new all)

pub queue-faults : (l : Lists) (i : ℕ) (qs : List QueuedPacket) → (i ≡ 2 → AllByRecursion (Tells l.tasks) qs) → AreValidFaults l → AreValidFaults (with_queue (Work i) qs l)
queue-faults l i qs new h =
    record {
      waits = λ there. h.waits (sym (there-same (with_work i qs) (work-keeps i qs) 2 l.tasks) ∙ there) ∙ ap not (sym (any-new (with_work i qs) (work-keeps i qs) l.tasks));
      sender = queue-sender l i qs new h.sender;
    }

-- ---- a turn ends

pub finished-faults : (l : Lists) → AreValidFaults l → AreValidFaults (finished l)
finished-faults l h = on (work l)
  where
    keeps : (t : Task) → ((change_of l.running waiting t).id ≡ t.id) × ((change_of l.running waiting t).fault ≡ t.fault)
    keeps t = elim (eqb t.id l.running) as (λ b. ((cond b (waiting t) t).id ≡ t.id) × ((cond b (waiting t) t).fault ≡ t.fault)) [ true ↦ (refl, refl) | false ↦ (refl, refl) ]

    queues : (t : Task) → ((change_of l.running waiting t).id ≡ t.id) × ((change_of l.running waiting t).queue ≡ t.queue)
    queues t = elim (eqb t.id l.running) as (λ b. ((cond b (waiting t) t).id ≡ t.id) × ((cond b (waiting t) t).queue ≡ t.queue)) [ true ↦ (refl, refl) | false ↦ (refl, refl) ]

    on : (ps : List QueuedPacket) → AreValidFaults (finished_by ps l)
    on [] = map-faults l (change_of l.running waiting) keeps queues h
    on (p ∷ ps) = h

-- ---- a fault is recorded

module _ (f : Fault) (is : IsRecordedFault f.code) where
  new-fault : (t : Task) → is_unreported (with_fault f t) ≡ true
  new-fault t = and_from (leb 1 f.code) (ltb f.code 256) (le-leb 1 f.code is.low) (lt-ltb f.code 256 (omega (arith, is.high)))

  any-held : (id : ℕ) (ts : List Task) → has_task id ts ≡ true → list_any is_unreported (map (change_of id (with_fault f)) ts) ≡ true
  any-held id [] e = cc
  any-held id (t ∷ ts) e = on (eqb t.id id) e (any-held id ts)
    where
      on : (b : Bool) → (b || has_task id ts) ≡ true → (has_task id ts ≡ true → list_any is_unreported (map (change_of id (with_fault f)) ts) ≡ true)
          → (is_unreported (cond b (with_fault f t) t) || list_any is_unreported (map (change_of id (with_fault f)) ts)) ≡ true
      on true e more = or_left _ _ (new-fault t)
      on false e more = or_right (is_unreported t) _ (more e)

  -- the guest has a new fault
  own-held : (id : ℕ) → is_guest_id id ≡ true → (ts : List Task) → has_task id ts ≡ true → has_unreported id (map (change_of id (with_fault f)) ts) ≡ true
  own-held id guest [] e = cc
  own-held id guest (t ∷ ts) e = on (eqb t.id id) refl e (own-held id guest ts)
    where
      on : (b : Bool) → eqb t.id id ≡ b → (b || has_task id ts) ≡ true → (has_task id ts ≡ true → has_unreported id (map (change_of id (with_fault f)) ts) ≡ true)
          → (HasNew id (cond b (with_fault f t) t) || has_unreported id (map (change_of id (with_fault f)) ts)) ≡ true
      on true same e more = or_left _ _ (and_from (eqb t.id id && is_guest_id id) _ (and_from (eqb t.id id) (is_guest_id id) same guest) (new-fault t))
      on false same e more = or_right (HasNew id t) _ (more e)

  -- and a guest that has one keeps it
  others-held : (running id : ℕ) (ts : List Task) → has_unreported id ts ≡ true → has_unreported id (map (change_of running (with_fault f)) ts) ≡ true
  others-held running id [] e = cc
  others-held running id (t ∷ ts) e = on (eqb t.id running) (HasNew id t) refl e (others-held running id ts)
    where
      on : (b d : Bool) → HasNew id t ≡ d → (d || has_unreported id ts) ≡ true → (has_unreported id ts ≡ true → has_unreported id (map (change_of running (with_fault f)) ts) ≡ true)
          → (HasNew id (cond b (with_fault f t) t) || has_unreported id (map (change_of running (with_fault f)) ts)) ≡ true
      on true true has e more =
          or_left _ _ (and_from (eqb t.id id && is_guest_id id) _ (and_parts (eqb t.id id && is_guest_id id) (is_unreported t) has).0 (new-fault t))
      on false true has e more = or_left _ _ has
      on true false has e more = or_right (HasNew id (with_fault f t)) _ (more e)
      on false false has e more = or_right (HasNew id t) _ (more e)

  tells-held : (running : ℕ) (ts : List Task) (ps : List QueuedPacket) → AllByRecursion (Tells ts) ps → AllByRecursion (Tells (map (change_of running (with_fault f)) ts)) ps
  tells-held running ts [] all = tt
  tells-held running ts (p ∷ ps) all = ((λ e. others-held running p.sender ts (all.0 e)), tells-held running ts ps all.1)

held-queues : (id : ℕ) (f : Fault) (t : Task) → ((change_of id (with_fault f) t).id ≡ t.id) × ((change_of id (with_fault f) t).queue ≡ t.queue)
held-queues id f t = elim (eqb t.id id) as (λ b. ((cond b (with_fault f t) t).id ≡ t.id) × ((cond b (with_fault f t) t).queue ≡ t.queue)) [ true ↦ (refl, refl) | false ↦ (refl, refl) ]

pub recorded-hold : (l : Lists) (f : Fault) → CanRecord l f → AreValidFaults l → AreValidFaults (recorded f l)
recorded-hold l f r h = on l.fault_packet_free refl
  where
    m : Lists
    m = held_with f l

    new : list_any is_unreported m.tasks ≡ true
    new = any-held f r.fault l.running l.tasks r.caller.there

    waiting-all : AllByRecursion (Tells m.tasks) (work_of 2 m.tasks)
    waiting-all = subst (AllByRecursion (Tells m.tasks)) (sym (work-same (change_of l.running (with_fault f)) (held-queues l.running f) 2 l.tasks)) (tells-held f r.fault l.running l.tasks (work_of 2 l.tasks) h.sender)

    qs : List QueuedPacket
    qs = work_of 2 m.tasks ++ packet_from l.running ∷ []

    on : (b : Bool) → l.fault_packet_free ≡ b → AreValidFaults (sent_where b m)
    on false e = record { waits = λ there. e ∙ ap not (sym new); sender = waiting-all }
    on true e =
        record {
          waits = λ there. ap not (sym (any-new (with_work 2 qs) (work-keeps 2 qs) m.tasks ∙ new));
          sender =
              queue-sender m 2 qs
              (λ _. all-append (Tells m.tasks) (work_of 2 m.tasks) (packet_from l.running ∷ []) waiting-all ((λ _. own-held f r.fault l.running r.caller.guest l.tasks r.caller.there), tt)) waiting-all;
        }

-- ---- faults are reported

old-fault : (t : Task) → is_unreported (reported t) ≡ false
old-fault t = on (is_unreported t) refl
  where
    on : (b : Bool) → is_unreported t ≡ b → is_unreported (cond b (record t { fault = t.fault + 256 }) t) ≡ false
    on false e = e
    on true e = ap (λ b. leb 1 (t.fault + 256) && b) (high (ltb (t.fault + 256) 256) refl) ∙ and-false (leb 1 (t.fault + 256))
      where
        high : (b : Bool) → ltb (t.fault + 256) 256 ≡ b → b ≡ false
        high true e = absurd (omega (arith, ltb-true (t.fault + 256) 256 e))
        high false e = refl

none-left : (ts : List Task) → list_any is_unreported (map reported ts) ≡ false
none-left [] = refl
none-left (t ∷ ts) = λ i. old-fault t i || none-left ts i

-- none of the packets that are left is the fault packet
tells-none : (ts : List Task) (ps : List QueuedPacket) → false ≡ is_on_queue fault_packet ps → AllByRecursion (Tells ts) ps
tells-none ts [] e = tt
tells-none ts (p ∷ ps) e = on (eqb fault_packet p.address) refl e (tells-none ts ps)
  where
    on : (b : Bool) → eqb fault_packet p.address ≡ b → false ≡ (b || is_on_queue fault_packet ps) → (false ≡ is_on_queue fault_packet ps → AllByRecursion (Tells ts) ps) → AllByRecursion (Tells ts) (p ∷ ps)
    on true same e more = absurd (false≢true e)
    on false same e more = ((λ is. absurd (false≢true (sym same ∙ eq-eqb fault_packet p.address (sym (eqb-true p.address fault_packet is))))), more e)

reported-queues : (t : Task) → ((reported t).id ≡ t.id) × ((reported t).queue ≡ t.queue)
reported-queues t =
    elim (is_unreported t) as (λ b. ((cond b (record t { fault = t.fault + 256 }) t).id ≡ t.id) × ((cond b (record t { fault = t.fault + 256 }) t).queue ≡ t.queue)) [ true ↦ (refl, refl) | false ↦ (refl, refl) ]

reported-hold : (l : Lists) (p : QueuedPacket) (ps : List QueuedPacket) → AreValid l → has_task 2 l.tasks ≡ true → work_of 2 l.tasks ≡ p ∷ ps → p.address ≡ fault_packet → AreValidFaults (all_reported (packet_taken ps l))
reported-hold l p ps v there is address =
    record {
      waits = λ _. ap not (sym (none-left m.tasks));
      sender =
          subst (AllByRecursion (Tells (map reported m.tasks))) (sym (work-same reported reported-queues 2 m.tasks))
          (tells-none (map reported m.tasks) (work_of 2 m.tasks) (gone (is_on_queue fault_packet (work_of 2 m.tasks)) (free-is m there-now (is_on_queue fault_packet (work_of 2 m.tasks)) valid refl)));
    }
  where
    m : Lists
    m = packet_taken ps l

    valid : AreValid m
    valid = fault_unqueued-valid l p [] ps v is address

    there-now : has_task 2 m.tasks ≡ true
    there-now = there-same (with_work 2 ps) (work-keeps 2 ps) 2 l.tasks ∙ there

    gone : (b : Bool) → true ≡ not b → false ≡ b
    gone true e = cc
    gone false e = refl

pub turn-hold : (s : List ℕ) (l : Lists) → AreValid l → RunsResident l → l.running ≡ 2 → AreValidFaults l → AreValidFaults (fault_turn s l).lists
turn-hold s l v r two h = on (work l) refl
  where
    there : has_task 2 l.tasks ≡ true
    there = sym (ap (λ i. has_task i l.tasks) two) ∙ r.there

    here : (ps : List QueuedPacket) → work l ≡ ps → work_of 2 l.tasks ≡ ps
    here ps is = sym (ap (λ i. work_of i l.tasks) two) ∙ is

    -- another packet is refused
    refused : (p : QueuedPacket) (ps : List QueuedPacket) → work l ≡ p ∷ ps → eqb p.address fault_packet ≡ false → (q : Request) → q.packet ≡ p.address
        → AreValidFaults (finished (with_arrived (Work q.sender) (answered_packet (with_queue (Work l.running) ps l) q (Err 31)) (with_queue (Work l.running) ps l)))
    refused p ps is other q address =
        let m : Lists = with_queue (Work l.running) ps l in
        let back : QueuedPacket = answered_packet m q (Err 31) in
        let rest : AllByRecursion (Tells l.tasks) ps = (subst (AllByRecursion (Tells l.tasks)) (here (p ∷ ps) is) h.sender).1 in
        let x : AreValidFaults m = queue-faults l l.running ps (λ _. rest) h in
        finished-faults (with_arrived (Work q.sender) back m)
        (queue-faults m q.sender (queue_of (Work q.sender) m ++ back ∷ [])
        (λ e.
        all-append (Tells m.tasks) (queue_of (Work q.sender) m) (back ∷ []) (subst (λ i. AllByRecursion (Tells m.tasks) (work_of i m.tasks)) (sym e) x.sender)
        ((λ same. absurd (false≢true (sym other ∙ ap (λ a. eqb a fault_packet) (sym address) ∙ same))), tt)) x)

    on : (ps : List QueuedPacket) → work l ≡ ps → AreValidFaults (fault_turn_from ps s l).lists
    on [] is = finished-faults l h
    on (p ∷ ps) is = by (eqb p.address fault_packet) refl
      where
        by : (b : Bool) → eqb p.address fault_packet ≡ b → AreValidFaults (cond b (reported_turn p ps s l) (request_turn unknown s l)).lists
        by true e = finished-faults (all_reported (packet_taken ps l)) (reported-hold l p ps v there (here (p ∷ ps) is) (eqb-true p.address fault_packet e))
        by false e =
            subst (λ qs. AreValidFaults (turn_of (first_request (words_taken_from qs s l) qs) (unknown (words_taken_from qs s l) (taken_from qs l).lists) s l).lists) (sym is)
            (subst (λ qs. AreValidFaults (finished (with_arrived (Work (request_at (words_taken_from (p ∷ ps) s l) p.address).sender) (answered_packet (taken_from qs l).lists (request_at (words_taken_from (p ∷ ps) s l) p.address) (Err 31)) (taken_from qs l).lists))) (sym is)
            (refused p ps is e (request_at (words_taken_from (p ∷ ps) s l) p.address) refl))
