use Rattle.kernel_lists.specs.TaskBlock.TaskChain.{tasks_in}
use Rattle.kernel_check.specs.ListPasses.StartMarks.{IsShut}
use Rattle.kernel_check.specs.ListPasses.Private.CanPass.{CanPass}
use Rattle.kernel_check.proofs.ListPasses.ClaimedWalks.{IsGoing}
use Rattle.kernel_check.specs.ListPasses.Frames.{OwnsCoroutines}
use Rattle.kernel_check.proofs.list_passes.coroutine_pass.are_valid_coroutines.Given as goal

abbrev pub invariant-loop-t : goal.invariant-loop-t
invariant-loop-t l = record { going : IsGoing (OwnsCoroutines l.store) (CanPass l.store) l.t-iterator (tasks_in l.store); shut : IsShut l.store l.own }
