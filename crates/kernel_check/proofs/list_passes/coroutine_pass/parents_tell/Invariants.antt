use Rattle.std.proofs.Common.{◌≡◌, not}
use Rattle.kernel_lists.specs.LinkedList.Places.{has}
use Rattle.kernel_lists.specs.TaskBlock.Lists.{coroutines_in}
use Rattle.kernel_lists.specs.Coroutines.Active.{active_in}
use Rattle.store_claims.specs.WordClaims.Marks.{is_open}
use Rattle.kernel_check.specs.ListPasses.Frames.{TellsParent}
use Rattle.kernel_check.proofs.ListPasses.ClaimedWalks.{IsGoing}
use Rattle.kernel_check.proofs.list_passes.coroutine_pass.parents_tell.Given as goal

abbrev pub invariant-loop-c : goal.invariant-loop-c
invariant-loop-c l = IsGoing (TellsParent l.store l.t) (λ c. is_open l.own c ≡ not (has c (active_in l.store l.t))) l.c-iterator (coroutines_in l.store l.t)
