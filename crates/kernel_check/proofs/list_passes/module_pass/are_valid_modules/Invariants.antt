use Rattle.kernel_lists.specs.TaskBlock.Lists.{modules_in}
use Rattle.kernel_check.proofs.ListPasses.ModuleWalk.{IsGoing}
use Rattle.kernel_check.proofs.list_passes.module_pass.are_valid_modules.Given as goal

abbrev pub invariant-loop-m : goal.invariant-loop-m
invariant-loop-m l = IsGoing l.store l.m-iterator (modules_in l.store)
