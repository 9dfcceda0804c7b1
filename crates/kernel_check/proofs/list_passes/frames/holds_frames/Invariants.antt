use Rattle.kernel_lists.specs.TaskBlock.Lists.{coroutines_in}
use Rattle.kernel_check.specs.ListPasses.Frames.{HasFrame}
use Rattle.kernel_check.proofs.ListPasses.ClaimedWalks.{IsGoing}
use Rattle.kernel_check.proofs.list_passes.frames.holds_frames.Given as goal

abbrev pub invariant-loop-c : goal.invariant-loop-c
invariant-loop-c l = IsGoing (HasFrame l.store) (λ c. Unit {0}) l.c-iterator (coroutines_in l.store l.t)
