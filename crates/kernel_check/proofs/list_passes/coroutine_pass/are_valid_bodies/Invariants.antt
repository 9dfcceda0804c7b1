use Rattle.kernel_lists.specs.TaskBlock.Lists.{coroutines_in}
use Rattle.kernel_check.proofs.ListPasses.ClaimedWalks.{IsGoing}
use Rattle.kernel_check.proofs.ListPasses.CoroutineWalks.{Body}
use Rattle.kernel_check.proofs.list_passes.coroutine_pass.are_valid_bodies.Given as goal

abbrev pub invariant-loop-c : goal.invariant-loop-c
invariant-loop-c l = IsGoing (Body l.store) (λ c. Unit {0}) l.c-iterator (coroutines_in l.store l.t)
