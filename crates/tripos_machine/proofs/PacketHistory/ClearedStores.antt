-- What holds of a store and its lists where the shell clears up: it goes from one call to the next.
use Rattle.std.proofs.Common.{ℕ, zero, suc, ◌+◌, ◌-◌, ◌≤◌, Bool, true, false, cond, eqb, Option, Some, None, Result, Ok, Err, arith}
use Rattle.std.specs.Prelude.{find}
use Rattle.std.specs.List.{range_with_len}
use Rattle.kernel_model.specs.KernelRecord.Running.{RunsAlive}
use Rattle.kernel_model.specs.KernelRecord.StoreWithLists.{StoreWithLists}
use Rattle.kernel_model.specs.KernelRecord.Task.{Task}
use Rattle.kernel_model.specs.KernelRecord.Versions.{highest_id_of}
use Rattle.kernel_calls.specs.TaskCalls.DeleteTask.{delete_task}
use Rattle.shell.specs.ShellPrograms.ClearedTasks.{after_deletion, cleared, cleared_all, cleared_at, cleared_task, deleted, first_module_of, unloaded}
use Rattle.shell.specs.ShellPrograms.StoresWithLists.{left_by}
use Rattle.shell.proofs.ShellPrograms.ClearedNumbers.{alive-cleared}

-- It goes over where a guest is deleted while the running task has its state, and where a module is unloaded; refused or not.
module _ (P : StoreWithLists → Type 0) (at_deletion : (id : ℕ) (k : StoreWithLists) → 5 ≤ id → RunsAlive k.lists → P k → P (left_by k.words (delete_task k.lists id))) (at_unloading : (m : ℕ) (k : StoreWithLists) → P k → P (unloaded m k)) where
  one-cleared : (id : ℕ) (k : StoreWithLists) → 5 ≤ id → RunsAlive k.lists → P k → P (cleared_at id k)
  one-cleared id k low alive x = on (find (λ t. eqb t.id id) k.lists.tasks)
    where
      first : P (left_by k.words (delete_task k.lists id))
      first = at_deletion id k low alive x

      after : (r : Result ℕ ℕ) (m : ℕ) → P (after_deletion r m (left_by k.words (delete_task k.lists id)))
      after (Ok n) m = at_unloading m (left_by k.words (delete_task k.lists id)) first
      after (Err code) m = first

      own : (b : Bool) (m : ℕ) → P (cond b (deleted id m k) k)
      own true m = after (delete_task k.lists id).answer m
      own false m = x

      on : (o : Option Task) → P (cleared_task id o k)
      on None = x
      on (Some t) = own (eqb t.maker 1) (first_module_of t)

  each-cleared : (id n : ℕ) (k : StoreWithLists) → 5 ≤ id → RunsAlive k.lists → P k → P (cleared_all (range_with_len id n) k)
  each-cleared id zero k low alive x = x
  each-cleared id (suc n) k low alive x = each-cleared (id + 1) n (cleared_at id k) (omega (arith, low)) (alive-cleared id k low alive) (one-cleared id k low alive x)

  pub all-cleared : (k : StoreWithLists) → RunsAlive k.lists → P k → P (cleared k)
  unfolding cleared
  all-cleared k alive x = each-cleared 5 (highest_id_of k.lists.version - 4) k (omega arith) alive x
