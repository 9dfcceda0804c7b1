-- The rule of the fault packet, over the lists: what keeps it.
use Rattle.std.proofs.Common.{◌≡◌, ℕ, ◌||◌, ◌&&◌, Bool, true, false, not, Option, Some, None, List, [], ◌∷◌, ◌++◌, map, cond, eqb, refl, sym, ap, ◌∙◌, subst, arith}
use Rattle.std.specs.Prelude.{find}
use Rattle.std.specs.List.{AllByRecursion, flat_map, list_any}
use Rattle.std.proofs.lemmas.Bool.{and_parts, eq-eqb, eqb-true, false≢true, leb-true, ne_eqb, or_left, or_right, or_parts}
use Rattle.std.proofs.lemmas.List.Folds.{list_any-append}
use Rattle.kernel_lists.specs.LinkedList.Places.{insert_after, without_first}
use Rattle.word_store.proofs.Elements.{all-append, find-passes}
use Rattle.kernel_lists.specs.PacketQueue.QueueWords.{QueuedPacket}
use Rattle.kernel_model.specs.KernelRecord.Between.{AreValidFaults, Tells, has_unreported, is_unreported}
use Rattle.kernel_model.specs.KernelRecord.Changes.{change_of, queue_of, with_new_task, with_queue, with_task, with_work, work_of}
use Rattle.kernel_model.specs.KernelRecord.Lists.{Lists, has_task}
use Rattle.kernel_model.specs.KernelRecord.MovedTask.{with_priority}
use Rattle.kernel_model.specs.KernelRecord.Residents.{fault_packet}
use Rattle.kernel_model.specs.KernelRecord.Task.{Task, is_guest_id}
use Rattle.kernel_model.specs.KernelRecord.ValidLists.{AreValid}
use Rattle.kernel_model.specs.KernelRecord.ValidQueues.{Place}
use Rattle.kernel_model.specs.KernelRecord.ValidQueues.Place.{Clock, Keyboard, Output, Pending, Work}
use Rattle.kernel_calls.specs.PacketCalls.PacketMoves.{arrived, with_arrived}
use Rattle.kernel_calls.specs.TaskCalls.ChangePri.{moved}
use Rattle.kernel_calls.specs.TaskCalls.DeleteTask.{has_packet_out, resident_packets, without_task}
use Rattle.resident_tasks.proofs.FaultReporter.FaultPacket.{free-is}
use Rattle.resident_tasks.proofs.FaultReporter.FaultsKept.{KeepsFault, any-new, map-faults, queue-faults, tells-same, there-same, work-keeps}
use Rattle.kernel_model.proofs.KernelRecord.AllThings.{all-fail}
use Rattle.kernel_model.proofs.KernelRecord.MovedTask.{or-swap}
use Rattle.shell.proofs.ShellPrograms.KeptFaults.{none-from, some-own}

-- it is asked where a task reports faults
abbrev pub HasRule : Lists → Type 0
HasRule l = has_task 2 l.tasks ≡ true → AreValidFaults l

-- a task that is not there has no packets
pub no-work : (id : ℕ) (ts : List Task) → has_task id ts ≡ false → work_of id ts ≡ []
no-work id [] none = refl
no-work id (t ∷ ts) none = on (eqb t.id id) none (no-work id ts)
  where
    on : (b : Bool) → (b || has_task id ts) ≡ false → (has_task id ts ≡ false → work_of id ts ≡ []) → cond b t.queue (work_of id ts) ≡ []
    on true e more = cc
    on false e more = more e

pub rule-of : (l : Lists) → AreValidFaults l → HasRule l
rule-of l h = λ there. h

pub rule-valid : (l : Lists) → HasRule l → AreValidFaults l
rule-valid l h = on (has_task 2 l.tasks) refl
  where
    on : (b : Bool) → has_task 2 l.tasks ≡ b → AreValidFaults l
    on true there = h there
    on false absent = record { waits = λ there. absurd (false≢true (sym absent ∙ there)); sender = subst (AllByRecursion (Tells l.tasks)) (sym (no-work 2 l.tasks absent)) tt }

-- ---- one task

-- a change of a task that leaves its number, its fault and its packets
pub record LeavesFault (f : Task → Task) : Type 0 where
  pub id : (t : Task) → (f t).id ≡ t.id
  pub fault : (t : Task) → (f t).fault ≡ t.fault
  pub queue : (t : Task) → (f t).queue ≡ t.queue

pub one-rule : (l : Lists) (n : ℕ) (f : Task → Task) → LeavesFault f → HasRule l → HasRule (with_task n f l)
one-rule l n f same h = λ there. map-faults l (change_of n f) keeps queues (h (sym (there-same (change_of n f) keeps 2 l.tasks) ∙ there))
  where
    keeps : KeepsFault (change_of n f)
    keeps t = on (eqb t.id n)
      where
        on : (b : Bool) → ((cond b (f t) t).id ≡ t.id) × ((cond b (f t) t).fault ≡ t.fault)
        on true = (same.id t, same.fault t)
        on false = (refl, refl)

    queues : (t : Task) → ((change_of n f t).id ≡ t.id) × ((change_of n f t).queue ≡ t.queue)
    queues t = on (eqb t.id n)
      where
        on : (b : Bool) → ((cond b (f t) t).id ≡ t.id) × ((cond b (f t) t).queue ≡ t.queue)
        on true = (same.id t, same.queue t)
        on false = (refl, refl)

-- ---- queues

pub queue-rule : (l : Lists) (at : Place) (ps : List QueuedPacket) → (has_task 2 l.tasks ≡ true → AreValidFaults l → at ≡ Work 2 → AllByRecursion (Tells l.tasks) ps) → HasRule l → HasRule (with_queue at ps l)
queue-rule l (Work i) ps new h = λ there.
    let before : has_task 2 l.tasks ≡ true = sym (there-same (with_work i ps) (work-keeps i ps) 2 l.tasks) ∙ there in
    queue-faults l i ps (λ e. new before (h before) (ap Work e)) (h before)
queue-rule l Clock ps new h = λ there. let x : AreValidFaults l = h there in record { waits = x.waits; sender = x.sender }
queue-rule l Keyboard ps new h = λ there. let x : AreValidFaults l = h there in record { waits = x.waits; sender = x.sender }
queue-rule l Output ps new h = λ there. let x : AreValidFaults l = h there in record { waits = x.waits; sender = x.sender }
queue-rule l Pending ps new h = λ there. let x : AreValidFaults l = h there in record { waits = x.waits; sender = x.sender }

-- another packet comes
pub arrived-rule : (l : Lists) (at : Place) (p : QueuedPacket) → (has_task 2 l.tasks ≡ true → eqb p.address fault_packet ≡ false) → HasRule l → HasRule (with_arrived at p l)
arrived-rule l at p other h =
    queue-rule l at (arrived at p (queue_of at l))
    (λ there x e.
    subst (λ z. AllByRecursion (Tells l.tasks) (arrived z p (queue_of z l))) (sym e)
    (all-append (Tells l.tasks) (work_of 2 l.tasks) (p ∷ []) x.sender ((λ same. absurd (false≢true (sym (other there) ∙ same))), tt))) h

-- some packets go
abbrev pub AreFewer : List QueuedPacket → List QueuedPacket → Type 1
AreFewer ps qs = (P : QueuedPacket → Type 0) → AllByRecursion P qs → AllByRecursion P ps

pub left-rule : (l : Lists) (at : Place) (ps : List QueuedPacket) → AreFewer ps (queue_of at l) → HasRule l → HasRule (with_queue at ps l)
left-rule l at ps fewer h = queue-rule l at ps (λ there x e. fewer (Tells l.tasks) (subst (λ z. AllByRecursion (Tells l.tasks) (queue_of z l)) (sym e) x.sender)) h

pub departed-fewer : (f : QueuedPacket → Bool) (ps : List QueuedPacket) → AreFewer (without_first f ps) ps
departed-fewer f [] P all = tt
departed-fewer f (p ∷ ps) P all = on (f p) (departed-fewer f ps P all.1)
  where
    on : (b : Bool) → AllByRecursion P (without_first f ps) → AllByRecursion P (cond b ps (p ∷ without_first f ps))
    on true more = all.1
    on false more = (all.0, more)

-- a change of a task that leaves its number and its fault, and some of its packets
fewer-work : (P : QueuedPacket → Type 0) (n : ℕ) (f : Task → Task) → ((t : Task) → (f t).id ≡ t.id) → ((t : Task) → AllByRecursion P t.queue → AllByRecursion P (f t).queue) → (ts : List Task)
    → AllByRecursion P (work_of 2 ts) → AllByRecursion P (work_of 2 (map (change_of n f) ts))
fewer-work P n f same fewer [] all = tt
fewer-work P n f same fewer (t ∷ ts) all = on (eqb t.id n) (eqb t.id 2) refl all (fewer-work P n f same fewer ts)
  where
    on : (b d : Bool) → eqb t.id 2 ≡ d → AllByRecursion P (cond d t.queue (work_of 2 ts)) → (AllByRecursion P (work_of 2 ts) → AllByRecursion P (work_of 2 (map (change_of n f) ts)))
        → AllByRecursion P (cond (eqb (cond b (f t) t).id 2) (cond b (f t) t).queue (work_of 2 (map (change_of n f) ts)))
    on true true e all more = subst (λ d. AllByRecursion P (cond d (f t).queue (work_of 2 (map (change_of n f) ts)))) (sym (ap (λ i. eqb i 2) (same t) ∙ e)) (fewer t all)
    on true false e all more = subst (λ d. AllByRecursion P (cond d (f t).queue (work_of 2 (map (change_of n f) ts)))) (sym (ap (λ i. eqb i 2) (same t) ∙ e)) (more all)
    on false true e all more = subst (λ d. AllByRecursion P (cond d t.queue (work_of 2 (map (change_of n f) ts)))) (sym e) all
    on false false e all more = subst (λ d. AllByRecursion P (cond d t.queue (work_of 2 (map (change_of n f) ts)))) (sym e) (more all)

pub fewer-rule : (l : Lists) (n : ℕ) (f : Task → Task) → ((t : Task) → (f t).id ≡ t.id) → ((t : Task) → (f t).fault ≡ t.fault) → ((t : Task) → AreFewer (f t).queue t.queue) → HasRule l → HasRule (with_task n f l)
fewer-rule l n f id fault fewer h = λ there.
    let before : has_task 2 l.tasks ≡ true = sym (there-same (change_of n f) keeps 2 l.tasks) ∙ there in
    let x : AreValidFaults l = h before in
    record {
      waits = λ _. x.waits before ∙ ap not (sym (any-new (change_of n f) keeps l.tasks));
      sender =
          tells-same (change_of n f) keeps l.tasks (work_of 2 (with_task n f l).tasks)
          (fewer-work (Tells l.tasks) n f id (λ t all. fewer t (Tells l.tasks) all) l.tasks x.sender);
    }
  where
    keeps : KeepsFault (change_of n f)
    keeps t = on (eqb t.id n)
      where
        on : (b : Bool) → ((cond b (f t) t).id ≡ t.id) × ((cond b (f t) t).fault ≡ t.fault)
        on true = (id t, fault t)
        on false = (refl, refl)

-- ---- the chain

module _ (g : Task → Bool) where
  any-in : (f : Task → Bool) (t : Task) (ts : List Task) → list_any g (insert_after f t ts) ≡ (g t || list_any g ts)
  any-in f t [] = refl
  any-in f t (q ∷ qs) = on (list_any f (q ∷ qs)) (any-in f t qs)
    where
      on : (b : Bool) → list_any g (insert_after f t qs) ≡ (g t || list_any g qs) → list_any g (cond b (q ∷ insert_after f t qs) (t ∷ q ∷ qs)) ≡ (g t || (g q || list_any g qs))
      on true more = ap (λ b. g q || b) more ∙ or-swap (g q) (g t) (list_any g qs)
      on false more = refl

  any-out : (f : Task → Bool) (t : Task) (ts : List Task) → find f ts ≡ Some t → list_any g ts ≡ (g t || list_any g (without_first f ts))
  any-out f t [] e = cc
  any-out f t (q ∷ qs) e = on (f q) e (any-out f t qs)
    where
      on : (b : Bool) → cond b (Some q) (find f qs) ≡ Some t → (find f qs ≡ Some t → list_any g qs ≡ (g t || list_any g (without_first f qs)))
          → (g q || list_any g qs) ≡ (g t || list_any g (cond b qs (q ∷ without_first f qs)))
      on true e more = (let same : q ≡ t = cc in ap (λ (u : Task). g u || list_any g qs) same)
      on false e more = ap (λ b. g q || b) (more e) ∙ or-swap (g q) (g t) (list_any g (without_first f qs))

  -- one fewer
  any-less : (f : Task → Bool) (ts : List Task) → list_any g (without_first f ts) ≡ true → list_any g ts ≡ true
  any-less f [] e = e
  any-less f (q ∷ qs) e = on (f q) e (any-less f qs)
    where
      on : (b : Bool) → list_any g (cond b qs (q ∷ without_first f qs)) ≡ true → (list_any g (without_first f qs) ≡ true → list_any g qs ≡ true) → (g q || list_any g qs) ≡ true
      on true e more = or_right (g q) (list_any g qs) e
      on false e more = kept (g q) e
        where
          kept : (b : Bool) → (b || list_any g (without_first f qs)) ≡ true → (b || list_any g qs) ≡ true
          kept true e = refl
          kept false e = more e

  -- one that is none of these
  any-kept : (f : Task → Bool) → ((t : Task) → f t ≡ true → g t ≡ false) → (ts : List Task) → list_any g (without_first f ts) ≡ list_any g ts
  any-kept f other [] = refl
  any-kept f other (q ∷ qs) = on (f q) refl (any-kept f other qs)
    where
      on : (b : Bool) → f q ≡ b → list_any g (without_first f qs) ≡ list_any g qs → list_any g (cond b qs (q ∷ without_first f qs)) ≡ (g q || list_any g qs)
      on true e more = sym (ap (λ b. b || list_any g qs) (other q e))
      on false e more = ap (λ b. g q || b) more

work-in : (id : ℕ) (f : Task → Bool) (t : Task) (ts : List Task) → eqb t.id id ≡ false → work_of id (insert_after f t ts) ≡ work_of id ts
work-in id f t [] other = ap (λ b. cond b t.queue []) other
work-in id f t (q ∷ qs) other = on (list_any f (q ∷ qs)) (work-in id f t qs other)
  where
    on : (b : Bool) → work_of id (insert_after f t qs) ≡ work_of id qs → work_of id (cond b (q ∷ insert_after f t qs) (t ∷ q ∷ qs)) ≡ work_of id (q ∷ qs)
    on true more = ap (cond (eqb q.id id) q.queue) more
    on false more = ap (λ b. cond b t.queue (work_of id (q ∷ qs))) other

work-out : (id : ℕ) (f : Task → Bool) → ((t : Task) → f t ≡ true → eqb t.id id ≡ false) → (ts : List Task) → work_of id (without_first f ts) ≡ work_of id ts
work-out id f other [] = refl
work-out id f other (q ∷ qs) = on (f q) refl (work-out id f other qs)
  where
    on : (b : Bool) → f q ≡ b → work_of id (without_first f qs) ≡ work_of id qs → work_of id (cond b qs (q ∷ without_first f qs)) ≡ cond (eqb q.id id) q.queue (work_of id qs)
    on true e more = sym (ap (λ b. cond b q.queue (work_of id qs)) (other q e))
    on false e more = ap (cond (eqb q.id id) q.queue) more

-- what packets tell of these tasks they tell of others
tells-other : (ts us : List Task) → ((id : ℕ) → has_unreported id ts ≡ true → has_unreported id us ≡ true) → (ps : List QueuedPacket) → AllByRecursion (Tells ts) ps → AllByRecursion (Tells us) ps
tells-other ts us more [] all = tt
tells-other ts us more (p ∷ ps) all = ((λ e. more p.sender (all.0 e)), tells-other ts us more ps all.1)

abbrev IsNew : ℕ → Task → Bool
IsNew id t = eqb t.id id && is_guest_id id && is_unreported t

-- a task comes that has no fault
pub new-rule : (l : Lists) (t : Task) → is_unreported t ≡ false → eqb t.id 2 ≡ false → HasRule l → HasRule (with_new_task t l)
new-rule l t none other h = λ there.
    let x : AreValidFaults l = h (sym (any-in (λ u. eqb u.id 2) _ t l.tasks ∙ ap (λ b. b || has_task 2 l.tasks) other) ∙ there) in
    record {
      waits = λ _.
          x.waits (sym (any-in (λ u. eqb u.id 2) _ t l.tasks ∙ ap (λ b. b || has_task 2 l.tasks) other) ∙ there)
          ∙ ap not (sym (any-in is_unreported _ t l.tasks ∙ ap (λ b. b || list_any is_unreported l.tasks) none));
      sender =
          subst (AllByRecursion (Tells (with_new_task t l).tasks)) (sym (work-in 2 _ t l.tasks other))
          (tells-other l.tasks (with_new_task t l).tasks (λ id e. any-in (IsNew id) _ t l.tasks ∙ or_right (IsNew id t) (has_unreported id l.tasks) e) (work_of 2 l.tasks) x.sender);
    }

-- no task with the number of a guest reports faults
not-reporter : (n : ℕ) → is_guest_id n ≡ true → (t : Task) → eqb t.id n ≡ true → eqb t.id 2 ≡ false
not-reporter n guest t e = ne_eqb t.id 2 (λ two. absurd (omega (arith, two, eqb-true t.id n e, leb-true 5 n guest)))

-- a guest moves
any-moved : (g f before : Task → Bool) (t u : Task) (ts : List Task) → find f ts ≡ Some t → g u ≡ g t → list_any g (insert_after before u (without_first f ts)) ≡ list_any g ts
any-moved g f before t u ts is same = any-in g before u (without_first f ts) ∙ ap (λ b. b || list_any g (without_first f ts)) same ∙ sym (any-out g f t ts is)

pub moved-rule : (l : Lists) (pri n : ℕ) → is_guest_id n ≡ true → (o : Option Task) → find (λ t. eqb t.id n) l.tasks ≡ o → HasRule l → HasRule (moved pri o (without_first (λ t. eqb t.id n) l.tasks) l)
moved-rule l pri n guest None is h = h
moved-rule l pri n guest (Some t) is h = λ there.
    let f : Task → Bool = λ v. eqb v.id n in
    let u : Task = with_priority pri t in
    let m : Lists = moved pri (Some t) (without_first f l.tasks) l in
    let other : eqb u.id 2 ≡ false = not-reporter n guest t (find-passes f l.tasks t is) in
    let before : has_task 2 l.tasks ≡ true = sym (any-moved (λ v. eqb v.id 2) f _ t u l.tasks is refl) ∙ there in
    let x : AreValidFaults l = h before in
    record {
      waits = λ _. x.waits before ∙ ap not (sym (any-moved is_unreported f _ t u l.tasks is refl));
      sender =
          subst (AllByRecursion (Tells m.tasks)) (sym (work-in 2 _ u (without_first f l.tasks) other ∙ work-out 2 f (not-reporter n guest) l.tasks))
          (tells-other l.tasks m.tasks (λ id e. any-moved (IsNew id) f _ t u l.tasks is refl ∙ e) (work_of 2 l.tasks) x.sender);
    }

-- ---- a guest goes

-- one who has a new fault is not the guest that goes
new-stays : (n id : ℕ) → eqb id n ≡ false → (t : Task) → eqb t.id n ≡ true → IsNew id t ≡ false
new-stays n id other t e =
    let apart : eqb t.id id ≡ false = ne_eqb t.id id (λ same. absurd (false≢true (sym other ∙ eq-eqb id n (sym same ∙ eqb-true t.id n e)))) in
    ap (λ b. b && is_guest_id id && is_unreported t) apart

module _ (l : Lists) (n : ℕ) (v : AreValid l) (guest : is_guest_id n ≡ true) (out : has_packet_out l n ≡ false) (x : AreValidFaults l) (there : has_task 2 l.tasks ≡ true) where
  abbrev f : Task → Bool
  f = λ t. eqb t.id n

  abbrev m : Lists
  m = without_task l n

  from-others : AllByRecursion (λ p. eqb p.sender n ≡ false) (work_of 2 l.tasks)
  from-others =
      let f : QueuedPacket → Bool = λ p. eqb p.sender n in
      none-from n l.tasks
      (or_parts (list_any f (flat_map resident_packets l.tasks)) (list_any f (l.clock ++ (l.keyboard ++ (l.output ++ l.pending))))
      (sym (list_any-append f (flat_map resident_packets l.tasks) (l.clock ++ (l.keyboard ++ (l.output ++ l.pending)))) ∙ out)).0

  still-tell : (ps : List QueuedPacket) → AllByRecursion (Tells l.tasks) ps → AllByRecursion (λ p. eqb p.sender n ≡ false) ps → AllByRecursion (Tells m.tasks) ps
  still-tell [] tell others = tt
  still-tell (p ∷ ps) tell others =
      ((λ e. any-kept (IsNew p.sender) f (new-stays n p.sender others.0) l.tasks ∙ tell.0 e), still-tell ps tell.1 others.1)

  told : AllByRecursion (Tells m.tasks) (work_of 2 l.tasks)
  told = still-tell (work_of 2 l.tasks) x.sender from-others

  -- where the fault packet waits, its sender is still there
  sender-there : (ps : List QueuedPacket) → AllByRecursion (Tells m.tasks) ps → list_any (λ q. eqb fault_packet q.address) ps ≡ true → list_any is_unreported m.tasks ≡ true
  sender-there [] tell e = cc
  sender-there (p ∷ ps) tell e = on (eqb fault_packet p.address) refl e (sender-there ps tell.1)
    where
      on : (b : Bool) → eqb fault_packet p.address ≡ b → (b || list_any (λ q. eqb fault_packet q.address) ps) ≡ true → (list_any (λ q. eqb fault_packet q.address) ps ≡ true → list_any is_unreported m.tasks ≡ true)
          → list_any is_unreported m.tasks ≡ true
      on true is e more = some-own p.sender m.tasks (tell.0 (eq-eqb p.address fault_packet (sym (eqb-true fault_packet p.address is))))
      on false is e more = more e

  waits-still : (b : Bool) → l.fault_packet_free ≡ b → b ≡ not (list_any is_unreported m.tasks)
  waits-still true free = none (list_any is_unreported m.tasks) refl
    where
      all : true ≡ not (list_any is_unreported l.tasks)
      all = sym free ∙ x.waits there

      none : (b : Bool) → list_any is_unreported m.tasks ≡ b → true ≡ not b
      none true e = absurd (false≢true (sym (all ∙ ap not (any-less is_unreported f l.tasks e))))
      none false e = refl
  waits-still false busy = ap not (sym (sender-there (work_of 2 l.tasks) told (some (list_any (λ q. eqb fault_packet q.address) (work_of 2 l.tasks)) refl)))
    where
      some : (b : Bool) → b ≡ list_any (λ q. eqb fault_packet q.address) (work_of 2 l.tasks) → list_any (λ q. eqb fault_packet q.address) (work_of 2 l.tasks) ≡ true
      some true e = sym e
      some false e = absurd (false≢true (sym busy ∙ free-is l there false v e))

  gone-hold : AreValidFaults m
  gone-hold = record {
    waits = λ _. waits-still l.fault_packet_free refl;
    sender = subst (AllByRecursion (Tells m.tasks)) (sym (work-out 2 f (not-reporter n guest) l.tasks)) told;
  }

pub gone-rule : (l : Lists) (n : ℕ) → AreValid l → is_guest_id n ≡ true → has_packet_out l n ≡ false → HasRule l → HasRule (without_task l n)
gone-rule l n v guest out h = λ there.
    let before : has_task 2 l.tasks ≡ true = any-less (λ t. eqb t.id 2) (λ t. eqb t.id n) l.tasks there in
    gone-hold l n v guest out (h before) before
