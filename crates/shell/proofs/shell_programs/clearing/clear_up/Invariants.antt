use Rattle.std.proofs.Common.{◌≡◌}
use Rattle.kernel_model.specs.KernelRecord.ChangedStore.{HasKeeper}
use Rattle.kernel_model.specs.KernelRecord.Lists.{Lists}
use Rattle.kernel_model.specs.KernelRecord.Running.{RunsAlive}
use Rattle.kernel_model.specs.KernelRecord.StoreWithLists.{store_with_lists}
use Rattle.shell.specs.ShellPrograms.ClearedTasks.{cleared}
use Rattle.shell.proofs.ShellPrograms.ClearedNumbers.{rest_of}
use Rattle.shell.proofs.shell_programs.clearing.clear_up.Given as goal

abbrev pub invariant-loop-id : goal.invariant-loop-id
invariant-loop-id g l = record {
  room : g.Q.KindKeeper.room l.kinds ≡ g.Q.KindKeeper.room l.fn.kinds;
  so_far : (h : Lists) → HasKeeper l.fn.store (g.Q.KindKeeper.tells l.fn.kinds) (g.Q.KindKeeper.room l.fn.kinds) h
      → RunsAlive h
      → (k : Lists) × HasKeeper l.store (g.Q.KindKeeper.tells l.kinds) (g.Q.KindKeeper.room l.kinds) k
      × RunsAlive k
      × (rest_of l.id l.id-end (store_with_lists l.store k) ≡ cleared (store_with_lists l.fn.store h));
}
