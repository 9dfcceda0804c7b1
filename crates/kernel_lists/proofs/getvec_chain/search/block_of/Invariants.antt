use Rattle.kernel_lists.specs.GetvecChain.Tiling.{blocks_in, holding}
use Rattle.kernel_lists.proofs.GetvecChain.UsedBlocks.{IsSought}
use Rattle.kernel_lists.proofs.getvec_chain.search.block_of.Given as goal

abbrev pub invariant-loop-block : goal.invariant-loop-block
invariant-loop-block l = IsSought l.store l.a (holding l.a (blocks_in l.store)) l.block-iterator
