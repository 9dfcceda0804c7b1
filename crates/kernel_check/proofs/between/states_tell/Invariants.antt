use Rattle.kernel_lists.specs.TaskBlock.TaskChain.{tasks_in}
use Rattle.kernel_model.specs.KernelRecord.Recovered.{task_in}
use Rattle.kernel_check.proofs.ListPasses.ClaimedWalks.{IsGoing}
use Rattle.kernel_check.proofs.RunningTask.{Tells}
use Rattle.kernel_check.proofs.between.states_tell.Given as goal

abbrev pub invariant-loop-t : goal.invariant-loop-t
invariant-loop-t l = IsGoing (λ t. Tells l.running (task_in l.store t)) (λ t. Unit {0}) l.t-iterator (tasks_in l.store)
