use Rattle.std.proofs.Common.{◌≡◌, ◌++◌, map}
use Rattle.kernel_lists.specs.GetvecChain.Tiling.{blocks_in}
use Rattle.kernel_model.specs.KernelRecord.KernelRanges.{block_range}
use Rattle.kernel_model.proofs.word_kinds.visits.show_blocks.Given as goal

abbrev pub invariant-loop-block : goal.invariant-loop-block
invariant-loop-block g l =
    g.V.Visitor.shown l.fn.visitor l.visitor (map block_range l.yielded) × (blocks_in l.store ≡ l.yielded ++ l.block-iterator)
