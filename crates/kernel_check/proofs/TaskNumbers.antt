-- An entry of the task table tells whether there is a task with the number.
use Rattle.std.proofs.Common.{◌≡◌, ◌≢◌, ℕ, ◌+◌, ◌-◌, ◌<◌, ◌≤◌, ◌||◌, Bool, true, false, not, List, [], ◌∷◌, cond, eqb, get_or, refl, sym, ap, ◌∙◌, subst, arith}
use Rattle.std.specs.List.{AllByRecursion}
use Rattle.std.proofs.lemmas.Bool.{eqb-true, false≢true, ne_eqb}
use Rattle.kernel_lists.specs.TaskBlock.HeldTasks.{address_with}
use Rattle.kernel_model.specs.KernelRecord.Lists.{Lists, has_task}
use Rattle.kernel_model.specs.KernelRecord.Recovered.{lists_in}
use Rattle.kernel_model.specs.KernelRecord.Task.{Task, task_address, task_id}
use Rattle.kernel_model.specs.KernelRecord.ValidTasks.{IsTask}
use Rattle.kernel_model.specs.KernelRecord.Versions.{highest_id_of}
use Rattle.kernel_check.proofs.ListPasses.ClaimedWalks.{of-tasks}
use Rattle.kernel_check.proofs.ListPasses.TaskTable.{holds-entries}
use Rattle.kernel_check.proofs.ListPasses.TaskWalks.{IsNumber, task-number}
use Rattle.kernel_check.specs.KnownTasks.{AreTasksKnown}
use Rattle.kernel_check.proofs.ClaimedQueues.{some-tasks}

numbers-in : (l : Lists) (ts : List Task) (id : ℕ) → AllByRecursion (IsTask l) ts → has_task id ts ≡ true → IsNumber l id
numbers-in l [] id all e = absurd (false≢true e)
numbers-in l (t ∷ ts) id all e = on (eqb t.id id) refl e (λ k. numbers-in l ts id all.1 k)
  where
    on : (b : Bool) → eqb t.id id ≡ b → (b || has_task id ts) ≡ true → (has_task id ts ≡ true → IsNumber l id) → IsNumber l id
    on true is e later = subst (IsNumber l) (eqb-true t.id id is) (task-number l t all.0)
    on false is e later = later e

pub address-in : (ts : List Task) (id : ℕ) → AllByRecursion (λ t. 0 < t.address) ts → has_task id ts ≡ not (eqb (address_with task_address task_id ts id) 0)
address-in [] id all = refl
address-in (t ∷ ts) id all = on (eqb t.id id) (address-in ts id all.1)
  where
    on : (b : Bool) → has_task id ts ≡ not (eqb (address_with task_address task_id ts id) 0)
        → (b || has_task id ts) ≡ not (eqb (cond b t.address (address_with task_address task_id ts id)) 0)
    on true later = (let some : t.address ≢ 0 = λ e. absurd (omega (arith, e, all.0)) in sym (ap not (ne_eqb t.address 0 some)))
    on false later = later

module _ (s : List ℕ) (k : AreTasksKnown s) (id : ℕ) where
  -- no task has a number that there is not
  pub no-number : (IsNumber (lists_in s) id → ⊥) → false ≡ has_task id (lists_in s).tasks
  no-number none = on (has_task id (lists_in s).tasks) refl
    where
      on : (b : Bool) → has_task id (lists_in s).tasks ≡ b → false ≡ has_task id (lists_in s).tasks
      on true e = absurd (none (numbers-in (lists_in s) (lists_in s).tasks id k.tasks.each e))
      on false e = sym e

  pub entry-tells : (w : ℕ) → id ≢ 0 → id ≤ highest_id_of (lists_in s).version → w ≡ get_or s (120 + id) 0 → not (eqb w 0) ≡ has_task id (lists_in s).tasks
  entry-tells w some high read =
      let next : 1 + (id - 1) ≡ id = omega (arith, some) in
      let entry : get_or s (120 + id) 0 ≡ address_with task_address task_id (lists_in s).tasks id =
      subst (λ z. get_or s (120 + z) 0 ≡ address_with task_address task_id (lists_in s).tasks z) next
      ((holds-entries s (address_with task_address task_id (lists_in s).tasks) 1 (highest_id_of (lists_in s).version)).1 k.table (id - 1) (omega (arith, some, high)))
      in
      ap (λ z. not (eqb z 0)) (read ∙ entry) ∙ sym (address-in (lists_in s).tasks id ((of-tasks s (λ t. 0 < t.address)).0 (some-tasks s k.claimed)))
