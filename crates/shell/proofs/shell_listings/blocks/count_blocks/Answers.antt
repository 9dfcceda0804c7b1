use Rattle.std.proofs.Common.{ap, sym, subst, ◌∙◌}
use Rattle.kernel_lists.specs.GetvecChain.Tiling.{blocks_in}
use Rattle.shell.specs.ShellListings.Private.BlockCounts.{counts_from, no_counts}
use Rattle.shell.proofs.ShellListings.BlockSums.{MayCountAll, may-count-tiles}
use Rattle.shell.proofs.shell_listings.blocks.count_blocks.Goals as goal

pub loop-block-init : goal.loop-block-init
loop-block-init c =
    let is = c.into_iter-block-iterator.ensures.into_iter_gives ∙ c.blocks-block-items.ensures.blocks in
    record {
      counts = ap (counts_from no_counts) is;
      room =
          subst (MayCountAll no_counts) (sym is)
          (may-count-tiles c.args.store.now 200 (blocks_in c.args.store.now) c.blocks-block-items.ensures.addresses c.requires);
    }
