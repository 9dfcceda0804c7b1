use Rattle.std.proofs.Common.{◌≡◌}
use Rattle.kernel_lists.specs.GetvecChain.Tiling.{blocks_in}
use Rattle.shell.specs.ShellListings.Private.BlockCounts.{counts_from, counts_of}
use Rattle.shell.proofs.ShellListings.BlockSums.{MayCountAll}
use Rattle.shell.proofs.shell_listings.blocks.count_blocks.Given as goal

abbrev pub invariant-loop-block : goal.invariant-loop-block
invariant-loop-block l = record {
  counts : counts_from l.counts l.block-iterator ≡ counts_of (blocks_in l.store);
  room : MayCountAll l.counts l.block-iterator;
}
