-- A task comes into the chain, goes out, or moves, and the queues stay.
use Rattle.std.proofs.Common.{◌≡◌, ℕ, ◌||◌, Bool, true, false, cond, eqb, Some, List, [], ◌∷◌, map, refl, sym, ap, ◌∙◌, subst, arith, eqb-true, eq-eqb}
use Rattle.std.specs.Prelude.{find}
use Rattle.std.specs.List.{list_any}
use Rattle.std.proofs.lemmas.Bool.{false≢true}
use Rattle.word_store.specs.Count.{IsApart, times}
use Rattle.word_store.proofs.Counts.{hit-same}
use Rattle.kernel_lists.specs.LinkedList.Places.{insert_after, without_first}
use Rattle.kernel_lists.specs.PacketQueue.QueueWords.{QueuedPacket}
use Rattle.kernel_model.specs.KernelRecord.Changes.{work_of}
use Rattle.kernel_model.specs.KernelRecord.Lists.{has_task}
use Rattle.kernel_model.specs.KernelRecord.Task.{Task, task_id}
use Rattle.word_store.proofs.Elements.{find-passes}
use Rattle.kernel_machine.proofs.KernelSteps.FaultRule.{no-work}

-- ---- the chain as queues see it: a task may be before all others

-- two tasks with other numbers
swapped : (n : ℕ) (t u : Task) → eqb u.id t.id ≡ false → (w : List QueuedPacket) → cond (eqb u.id n) u.queue (cond (eqb t.id n) t.queue w) ≡ cond (eqb t.id n) t.queue (cond (eqb u.id n) u.queue w)
swapped n t u other w = on (eqb u.id n) (eqb t.id n) refl refl
  where
    on : (b c : Bool) → eqb u.id n ≡ b → eqb t.id n ≡ c → cond b u.queue (cond c t.queue w) ≡ cond c t.queue (cond b u.queue w)
    on true true is too = absurd (false≢true (sym other ∙ eq-eqb u.id t.id (eqb-true u.id n is ∙ sym (eqb-true t.id n too))))
    on true false is too = refl
    on false c is too = refl

work-inserted : (n : ℕ) (f : Task → Bool) (t : Task) (ts : List Task) → has_task t.id ts ≡ false → work_of n (insert_after f t ts) ≡ work_of n (t ∷ ts)
work-inserted n f t [] none = refl
work-inserted n f t (u ∷ us) none = on (list_any f (u ∷ us)) (eqb u.id t.id) refl none (work-inserted n f t us)
  where
    on : (b c : Bool) → eqb u.id t.id ≡ c → (c || has_task t.id us) ≡ false → (has_task t.id us ≡ false → work_of n (insert_after f t us) ≡ work_of n (t ∷ us))
        → work_of n (cond b (u ∷ insert_after f t us) (t ∷ u ∷ us)) ≡ work_of n (t ∷ u ∷ us)
    on b true is none more = cc
    on true false is none more = ap (cond (eqb u.id n) u.queue) (more none) ∙ swapped n t u is (work_of n us)
    on false false is none more = refl

work-first : (n id : ℕ) (t : Task) (ts : List Task) → find (λ u. eqb u.id id) ts ≡ Some t → work_of n (t ∷ without_first (λ u. eqb u.id id) ts) ≡ work_of n ts
work-first n id t [] found = cc
work-first n id t (u ∷ us) found = on (eqb u.id id) refl found (work-first n id t us)
  where
    on : (b : Bool) → eqb u.id id ≡ b → cond b (Some u) (find (λ v. eqb v.id id) us) ≡ Some t
        → (find (λ v. eqb v.id id) us ≡ Some t → work_of n (t ∷ without_first (λ v. eqb v.id id) us) ≡ work_of n us)
        → work_of n (t ∷ cond b us (u ∷ without_first (λ v. eqb v.id id) us)) ≡ work_of n (u ∷ us)
    on true is found more = (let same : u ≡ t = cc in ap (λ v. work_of n (v ∷ us)) (sym same))
    on false is found more =
        let number : t.id ≡ id = eqb-true t.id id (find-passes (λ v. eqb v.id id) us t found) in
        sym (swapped n t u (ap (eqb u.id) number ∙ is) (work_of n (without_first (λ v. eqb v.id id) us))) ∙ ap (cond (eqb u.id n) u.queue) (more found)

-- ---- the number of the task that goes is then nobody's

no-task : (id : ℕ) (ts : List Task) → times id (map task_id ts) ≡ 0 → has_task id ts ≡ false
no-task id [] none = refl
no-task id (t ∷ ts) none = on (eqb t.id id) refl (no-task id ts)
  where
    on : (b : Bool) → eqb t.id id ≡ b → (times id (map task_id ts) ≡ 0 → has_task id ts ≡ false) → (b || has_task id ts) ≡ false
    on true is more = absurd (omega (arith, none, hit-same id t.id (sym (eqb-true t.id id is))))
    on false is more = more (omega (arith, none))

gone-none : (id : ℕ) (ts : List Task) → IsApart (map task_id ts) → has_task id (without_first (λ t. eqb t.id id) ts) ≡ false
gone-none id [] apart = refl
gone-none id (t ∷ ts) apart = on (eqb t.id id) refl (gone-none id ts (λ a. omega (arith, apart a)))
  where
    on : (b : Bool) → eqb t.id id ≡ b → has_task id (without_first (λ t. eqb t.id id) ts) ≡ false → has_task id (cond b ts (t ∷ without_first (λ t. eqb t.id id) ts)) ≡ false
    on true is more = no-task id ts (omega (arith, apart id, hit-same id t.id (sym (eqb-true t.id id is))))
    on false is more = ap (λ b. b || has_task id (without_first (λ t. eqb t.id id) ts)) is ∙ more

-- ---- what becomes of the queues

-- a task with no packets tells nothing
work-beside : (n : ℕ) (t : Task) (ts : List Task) → has_task t.id ts ≡ false → t.queue ≡ [] → work_of n (t ∷ ts) ≡ work_of n ts
work-beside n t ts none empty = on (eqb t.id n) refl
  where
    on : (b : Bool) → eqb t.id n ≡ b → cond b t.queue (work_of n ts) ≡ work_of n ts
    on true is = empty ∙ sym (no-work n ts (subst (λ i. has_task i ts ≡ false) (eqb-true t.id n is) none))
    on false is = refl

pub work-new : (n : ℕ) (f : Task → Bool) (t : Task) (ts : List Task) → has_task t.id ts ≡ false → t.queue ≡ [] → work_of n (insert_after f t ts) ≡ work_of n ts
work-new n f t ts none empty = work-inserted n f t ts none ∙ work-beside n t ts none empty

module _ (n id : ℕ) (t : Task) (ts : List Task) (apart : IsApart (map task_id ts)) (found : find (λ u. eqb u.id id) ts ≡ Some t) where
  abbrev rest : List Task
  rest = without_first (λ u. eqb u.id id) ts

  none : has_task t.id rest ≡ false
  none = subst (λ i. has_task i rest ≡ false) (sym (eqb-true t.id id (find-passes (λ u. eqb u.id id) ts t found))) (gone-none id ts apart)

  pub work-gone : t.queue ≡ [] → work_of n rest ≡ work_of n ts
  work-gone empty = sym (work-beside n t rest none empty) ∙ work-first n id t ts found

  pub work-moved : (f : Task → Bool) (u : Task) → u.id ≡ t.id → u.queue ≡ t.queue → work_of n (insert_after f u rest) ≡ work_of n ts
  work-moved f u same queue =
      work-inserted n f u rest (subst (λ i. has_task i rest ≡ false) (sym same) none) ∙ (λ i. cond (eqb (same i) n) (queue i) (work_of n rest)) ∙ work-first n id t ts found
