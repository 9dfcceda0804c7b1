-- A machine with a kernel, of which it is known what its parts represent.
use Rattle.std.proofs.Common.{◌≡◌, ℕ, Option, Some, List, [], ◌∷◌, map, refl, sym, ap, ◌∙◌, cond, true, false, Bool, ◌==◌}
use Rattle.std.specs.List.{find}
use Rattle.std.specs.Option.{option_map}
use Rattle.kernel_model.specs.KernelRecord.HoldsLists.{HoldsLists}
use Rattle.kernel_model.specs.KernelRecord.Kernel.{Kernel}
use Rattle.kernel_model.specs.KernelRecord.Lists.{Lists}
use Rattle.kernel_model.specs.KernelRecord.Recovered.{task_in}
use Rattle.kernel_model.specs.KernelRecord.Task.{Task}
use Rattle.kernel_lists.specs.TaskBlock.TaskChain.{id_in, task_with, tasks_in}
use Rattle.kernel_machine.specs.RunningMachine.RepresentedKernels.{RepresentsKernel}
use Rattle.kernel_machine.specs.declared.running_machine.parts.Parts.{Parts}
use Rattle.tripos_machine.specs.State.{RepresentsFullState, State}
use Rattle.tripos_machine.specs.State.State.{Bare, Full}
use Rattle.debugger.proofs.KernelLists.{tasks-back}
use Rattle.show_run.specs.StepLog.Answers.{answer_at, answer_of_task, answer_saved}
use Rattle.show_run.specs.StepLog.Faults.{record_at, record_of_task, recorded}

-- what holds of each kernel that the parts represent, holds of the machine
pub on-represented : (p : Parts) (s : State) (P : State → Type 0) → RepresentsFullState p s → ((k : Kernel) → RepresentsKernel p k → P (Full k)) → P s
on-represented p (Bare m) P x each = absurd x
on-represented p (Full k) P x each = each k x

-- ---- what the block of a task says

module _ {X : Type 0} (of : Task → X) where
  of-found : (s : List ℕ) (id : ℕ) (ts : List ℕ) → option_map of (find (λ (t : Task). t.id == id) (map (task_in s) ts)) ≡ option_map (λ t. of (task_in s t)) (task_with s id ts)
  of-found s id [] = refl
  of-found s id (t ∷ ts) = on (id_in s t == id) (of-found s id ts)
    where
      rest : Option Task
      rest = find (λ (u : Task). u.id == id) (map (task_in s) ts)

      on : (b : Bool) → option_map of rest ≡ option_map (λ t. of (task_in s t)) (task_with s id ts)
          → option_map of (cond b (Some (task_in s t)) rest) ≡ option_map (λ t. of (task_in s t)) (cond b (Some t) (task_with s id ts))
      on true more = refl
      on false more = more

  of-task : (s : List ℕ) (l : Lists) → HoldsLists s l → (id : ℕ) → option_map of (find (λ (t : Task). t.id == id) l.tasks) ≡ option_map (λ t. of (task_in s t)) (task_with s id (tasks_in s))
  of-task s l h id = ap (λ ts. option_map of (find (λ (t : Task). t.id == id) ts)) (sym (tasks-back s l h)) ∙ of-found s id (tasks_in s)

pub answer-found : (s : List ℕ) (l : Lists) → HoldsLists s l → (id : ℕ) → answer_of_task id l.tasks ≡ option_map (answer_at s) (task_with s id (tasks_in s))
unfolding answer_of_task
answer-found s l h id = of-task answer_saved s l h id

pub record-found : (s : List ℕ) (l : Lists) → HoldsLists s l → (id : ℕ) → record_of_task id l.tasks ≡ option_map (record_at s) (task_with s id (tasks_in s))
unfolding record_of_task
record-found s l h id = of-task recorded s l h id
