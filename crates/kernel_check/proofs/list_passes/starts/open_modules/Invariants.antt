use Rattle.kernel_lists.specs.TaskBlock.Lists.{modules_in}
use Rattle.kernel_check.proofs.ListPasses.StartMarks.{IsNaming}
use Rattle.kernel_check.proofs.list_passes.starts.open_modules.Given as goal

abbrev pub invariant-loop-m : goal.invariant-loop-m
invariant-loop-m l = IsNaming l.store l.marks l.m-iterator (modules_in l.store)
