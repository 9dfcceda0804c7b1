use Rattle.kernel_machine.proofs.RunningMachine.UncountedSteps.{IsCounting}
use Rattle.kernel_machine.proofs.running_machine.spans.execute_uncounted.Given as goal

abbrev pub invariant-loop-taken : goal.invariant-loop-taken
invariant-loop-taken l = IsCounting l.fn.parts l.parts l.most l.taken
