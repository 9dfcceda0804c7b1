use Rattle.std.proofs.Common.{◌≡◌, find}
use Rattle.kernel_lists.specs.TaskBlock.TaskChain.{tasks_in}
use Rattle.kernel_model.specs.KernelDispatch.Private.DispatchWords.{is_ready_in}
use Rattle.kernel_model.proofs.kernel_dispatch.choice.first_by_state.Given as goal

abbrev pub invariant-loop-t : goal.invariant-loop-t
invariant-loop-t l = find (is_ready_in l.store) (tasks_in l.store) ≡ find (is_ready_in l.store) l.t-iterator
