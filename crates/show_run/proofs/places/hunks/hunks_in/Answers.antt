use Rattle.std.proofs.Common.{◌∙◌, sym, ap, subst}
use Rattle.std.specs.List.{AllByRecursion}
use Rattle.debugger.proofs.KernelLists.{blocks-back, is-tiled}
use Rattle.kernel_lists.specs.GetvecChain.Tiling.{blocks_in}
use Rattle.show_run.specs.Places.Hunks.{hunks_in_blocks}
use Rattle.show_run.proofs.LoadedHunks.BlockHunks.{IsInside, tiles-all}
use Rattle.show_run.proofs.places.hunks.hunks_in.Goals as goal

pub blocks-block-items-requires : goal.blocks-block-items-requires
blocks-block-items-requires c = is-tiled c.args.store.now c.requires.0 c.requires.1

pub loop-block-init : goal.loop-block-init
loop-block-init c =
    let s = c.args.store.now in
    let is = c.into_iter-block-iterator.ensures.into_iter_gives ∙ c.blocks-block-items.ensures.blocks in
    record {
      so_far = λ k h. rw c.new-loaded.ensures.items (ap (hunks_in_blocks c.args.hunks.now s k) (is ∙ blocks-back s k h));
      inside = subst (AllByRecursion (IsInside s)) (sym is) (tiles-all s 200 (blocks_in s) c.blocks-block-items.ensures.addresses (is-tiled s c.requires.0 c.requires.1));
      low = c.blocks-block-items.ensures.addresses;
    }
