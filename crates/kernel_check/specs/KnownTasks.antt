-- What the pass over the queues may rest on.
use Rattle.std.specs.Prelude.{ℕ, List}
use Rattle.kernel_lists.specs.OwnedWords.Owned.{Holds}
use Rattle.kernel_lists.specs.TaskBlock.ChainWords.{entries}
use Rattle.kernel_lists.specs.TaskBlock.HeldTasks.{address_with}
use Rattle.kernel_model.specs.KernelRecord.Recovered.{lists_in}
use Rattle.kernel_model.specs.KernelRecord.Task.{task_address, task_id}
use Rattle.kernel_model.specs.KernelRecord.ValidTasks.{AreValidTasks}
use Rattle.kernel_model.specs.KernelRecord.Versions.{highest_id_of}
use Rattle.kernel_check.specs.ListPasses.ClaimedStore.{IsClaimed}

-- All words were claimed, the rules of tasks hold, and the table leads to each of them.
pub record AreTasksKnown (s : List ℕ) : Type 0 where
  -- the words
  pub claimed : IsClaimed s
  -- the tasks
  pub tasks : AreValidTasks (lists_in s)
  -- the table
  pub table : Holds s (entries (address_with task_address task_id (lists_in s).tasks) 1 (highest_id_of (lists_in s).version))
