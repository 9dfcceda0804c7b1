use Rattle.std.proofs.Common.{◌≡◌, drop}
use Rattle.kernel_model.specs.KernelRecord.ChangedStore.{HasKeeper}
use Rattle.kernel_model.specs.KernelRecord.Lists.{Lists}
use Rattle.kernel_boot.specs.BootTasks.{AreBootLines, start_tasks}
use Rattle.kernel_model.specs.KernelRecord.StoreWithLists.{store_with_lists}
use Rattle.kernel_boot.proofs.tasks.start_tasks.Given as goal

abbrev pub invariant-loop-line : goal.invariant-loop-line
invariant-loop-line g l = record {
  room : g.Q.KindKeeper.room l.kinds ≡ g.Q.KindKeeper.room l.fn.kinds;
  so_far : (h : Lists) → HasKeeper l.fn.store (g.Q.KindKeeper.tells l.fn.kinds) (g.Q.KindKeeper.room l.fn.kinds) h
      → AreBootLines h.version l.lines
      → (k : Lists) × HasKeeper l.store (g.Q.KindKeeper.tells l.kinds) (g.Q.KindKeeper.room l.kinds) k
      × (k.version ≡ h.version)
      × (start_tasks l.disc (drop l.line-index l.lines) (store_with_lists l.store k) ≡ start_tasks l.disc l.lines (store_with_lists l.fn.store h));
}
