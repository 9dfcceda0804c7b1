use Rattle.kernel_lists.proofs.HunkLoader.HunkWalk.{FitLeft}
use Rattle.kernel_lists.proofs.hunk_loader.globals.globals_fit.Given as goal

abbrev pub invariant-loop-i : goal.invariant-loop-i
invariant-loop-i l = FitLeft l.store l.m l.i l.base
