use Rattle.kernel_machine.proofs.KernelSteps.RunningCaller.{valid-runs, runs-alone, runs-calls}
use Rattle.kernel_machine.proofs.kernel_steps.turn_laws.running_law.Goals as goal

pub returns-clause-runs : goal.returns-clause-runs
returns-clause-runs c = λ k h goes. valid-runs k h goes

pub returns-clause-calls : goal.returns-clause-calls
returns-clause-calls c = λ k v h guest. runs-calls k.lists k.regs h v guest

pub returns-clause-alone : goal.returns-clause-alone
returns-clause-alone c = λ k h. runs-alone k.lists k.regs h
