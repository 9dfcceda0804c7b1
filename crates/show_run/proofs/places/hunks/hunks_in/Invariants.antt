use Rattle.std.proofs.Common.{◌≡◌, ◌<◌, ◌^◌, ◌++◌, length}
use Rattle.std.specs.List.{AllByRecursion}
use Rattle.kernel_model.specs.KernelRecord.HoldsLists.{HoldsLists}
use Rattle.kernel_model.specs.KernelRecord.Lists.{Lists}
use Rattle.show_run.specs.Places.Hunks.{hunks_in_blocks}
use Rattle.show_run.proofs.LoadedHunks.BlockHunks.{IsInside}
use Rattle.show_run.proofs.places.hunks.hunks_in.Given as goal

abbrev pub invariant-loop-block : goal.invariant-loop-block
invariant-loop-block l = record {
  so_far : (k : Lists) → HoldsLists l.store k
      → l.loaded.items ++ hunks_in_blocks l.hunks l.store k l.block-iterator ≡ hunks_in_blocks l.hunks l.store k k.blocks;
  inside : AllByRecursion (IsInside l.store) l.block-iterator;
  low : length l.store < 2 ^ 32;
}
