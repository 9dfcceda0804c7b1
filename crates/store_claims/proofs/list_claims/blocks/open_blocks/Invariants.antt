use Rattle.kernel_lists.specs.GetvecChain.Tiling.{blocks_in}
use Rattle.store_claims.proofs.ListClaims.OpenBlocks.{IsOpening}
use Rattle.store_claims.proofs.list_claims.blocks.open_blocks.Given as goal

abbrev pub invariant-loop-block : goal.invariant-loop-block
invariant-loop-block l = IsOpening l.store l.claims l.block-iterator (blocks_in l.store)
