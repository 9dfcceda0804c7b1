use Rattle.kernel_lists.specs.TaskBlock.TaskChain.{tasks_in}
use Rattle.kernel_model.specs.KernelRecord.Recovered.{lists_in, task_in}
use Rattle.kernel_model.specs.KernelRecord.ValidTasks.{IsTask}
use Rattle.kernel_check.specs.ListPasses.Private.CanPass.{CanPass}
use Rattle.kernel_check.proofs.ListPasses.ClaimedWalks.{IsGoing}
use Rattle.kernel_check.proofs.list_passes.task_pass.is_each_valid.Given as goal

abbrev pub invariant-loop-t : goal.invariant-loop-t
invariant-loop-t l = IsGoing (λ t. IsTask (lists_in l.store) (task_in l.store t)) (CanPass l.store) l.t-iterator (tasks_in l.store)
