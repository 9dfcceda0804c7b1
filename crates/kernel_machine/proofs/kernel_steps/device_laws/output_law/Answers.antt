use Rattle.kernel_machine.proofs.KernelSteps.DevicesKept.{output-dispatch, output-keys, output-numbers, output-residents, output-same, output-stop}
use Rattle.kernel_machine.proofs.kernel_steps.device_laws.output_law.Goals as goal

pub returns-clause-dispatch : goal.returns-clause-dispatch
returns-clause-dispatch c = λ k can. output-dispatch k can

pub returns-clause-numbers : goal.returns-clause-numbers
returns-clause-numbers c = λ k can. output-numbers k can

pub returns-clause-same : goal.returns-clause-same
returns-clause-same c = λ k. output-same k

pub returns-clause-residents : goal.returns-clause-residents
returns-clause-residents c = λ k. output-residents k

pub returns-clause-keys : goal.returns-clause-keys
returns-clause-keys c = λ k. output-keys k

pub returns-clause-stop : goal.returns-clause-stop
returns-clause-stop c = λ k. output-stop k
