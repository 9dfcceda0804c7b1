use Rattle.kernel_lists.specs.GetvecChain.Tiling.{blocks_in}
use Rattle.kernel_check.proofs.ListPasses.StartMarks.{IsMarking}
use Rattle.kernel_check.proofs.list_passes.starts.open_starts.Given as goal

abbrev pub invariant-loop-block : goal.invariant-loop-block
invariant-loop-block l = IsMarking l.store l.starts l.block-iterator (blocks_in l.store)
