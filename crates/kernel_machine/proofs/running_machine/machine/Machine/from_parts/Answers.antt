use Rattle.kernel_machine.proofs.RunningMachine.OneMachine.{one-machine, whole}
use Rattle.kernel_machine.proofs.running_machine.machine.Machine.from_parts.Goals as goal

pub invariant_of-result : goal.invariant_of-result
invariant_of-result c = let (k, st, h, goes) = c.requires in whole c.args.parts k st h _ goes

pub returns-clause-kernel : goal.returns-clause-kernel
returns-clause-kernel c = λ k st h goes. one-machine c.args.parts k st _ goes
