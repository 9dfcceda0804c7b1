use Rattle.kernel_lists.specs.TaskBlock.Lists.{coroutines_in}
use Rattle.kernel_check.proofs.ListPasses.StartMarks.{IsNaming}
use Rattle.kernel_check.proofs.list_passes.coroutine_pass.open_coroutines.Given as goal

abbrev pub invariant-loop-c : goal.invariant-loop-c
invariant-loop-c l = IsNaming l.store l.own l.c-iterator (coroutines_in l.store l.t)
