use Rattle.kernel_lists.proofs.HunkLoader.HunkWalk.{SetLeft}
use Rattle.kernel_lists.proofs.hunk_loader.globals.init_globals.Given as goal

abbrev pub invariant-loop-i : goal.invariant-loop-i
invariant-loop-i l = SetLeft l.fn.store l.store l.m l.g l.i l.base
