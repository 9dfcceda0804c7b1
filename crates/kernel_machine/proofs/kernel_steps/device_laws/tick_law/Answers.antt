use Rattle.kernel_machine.proofs.KernelSteps.DevicesKept.{tick-dispatch, tick-keys, tick-numbers, tick-residents, tick-same, tick-stop}
use Rattle.kernel_machine.proofs.KernelSteps.NextTick.{tick-periods}
use Rattle.kernel_machine.proofs.kernel_steps.device_laws.tick_law.Goals as goal

pub returns-clause-dispatch : goal.returns-clause-dispatch
returns-clause-dispatch c = λ k can. tick-dispatch k can

pub returns-clause-numbers : goal.returns-clause-numbers
returns-clause-numbers c = λ k can. tick-numbers k can

pub returns-clause-periods : goal.returns-clause-periods
returns-clause-periods c = λ k n some steps ticks. tick-periods k n some steps ticks

pub returns-clause-same : goal.returns-clause-same
returns-clause-same c = λ k. tick-same k

pub returns-clause-residents : goal.returns-clause-residents
returns-clause-residents c = λ k. tick-residents k

pub returns-clause-keys : goal.returns-clause-keys
returns-clause-keys c = λ k. tick-keys k

pub returns-clause-stop : goal.returns-clause-stop
returns-clause-stop c = λ k. tick-stop k
