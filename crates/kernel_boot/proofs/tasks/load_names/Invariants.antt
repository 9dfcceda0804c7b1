use Rattle.std.proofs.Common.{◌≡◌, ◌≤◌, [], drop, length}
use Rattle.kernel_model.specs.KernelRecord.ChangedStore.{HasKeeper}
use Rattle.kernel_model.specs.KernelRecord.Lists.{Lists}
use Rattle.kernel_boot.specs.BootTasks.{load_names}
use Rattle.kernel_model.specs.KernelRecord.StoreWithLists.{store_with_lists}
use Rattle.kernel_boot.proofs.tasks.load_names.Given as goal

abbrev pub invariant-loop-name : goal.invariant-loop-name
invariant-loop-name g l = record {
  count : length l.modules.items ≤ l.name-index;
  room : g.Q.KindKeeper.room l.kinds ≡ g.Q.KindKeeper.room l.fn.kinds;
  so_far : (h : Lists) → HasKeeper l.fn.store (g.Q.KindKeeper.tells l.fn.kinds) (g.Q.KindKeeper.room l.fn.kinds) h
      → (k : Lists) × HasKeeper l.store (g.Q.KindKeeper.tells l.kinds) (g.Q.KindKeeper.room l.kinds) k
      × (load_names l.disc (drop l.name-index l.names) l.modules.items (store_with_lists l.store k) ≡ load_names l.disc l.names [] (store_with_lists l.fn.store h));
}
