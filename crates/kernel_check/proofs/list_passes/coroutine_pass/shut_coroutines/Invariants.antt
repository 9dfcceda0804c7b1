use Rattle.kernel_check.proofs.ListPasses.CoroutineWalks.{IsShutting}
use Rattle.kernel_check.proofs.list_passes.coroutine_pass.shut_coroutines.Given as goal

abbrev pub invariant-loop-c : goal.invariant-loop-c
invariant-loop-c l = IsShutting l.store l.own l.c-iterator
