use Rattle.std.specs.Prelude.{◌≤◌}
use Rattle.kernel_model.specs.KernelRecord.Ranges.{most_steps}
use Rattle.kernel_machine.proofs.KernelSteps.DevicesKept.{key-ahead, key-dispatch, key-keys, key-numbers, key-residents, key-same, key-stop}
use Rattle.kernel_machine.proofs.kernel_steps.device_laws.key_law.Goals as goal

pub returns-clause-dispatch : goal.returns-clause-dispatch
returns-clause-dispatch c = λ k can. key-dispatch k can

pub returns-clause-numbers : goal.returns-clause-numbers
returns-clause-numbers c = λ k can. key-numbers k can

pub returns-clause-same : goal.returns-clause-same
returns-clause-same c = λ k. key-same k

pub returns-clause-residents : goal.returns-clause-residents
returns-clause-residents c = λ k. key-residents k

pub returns-clause-keys : goal.returns-clause-keys
returns-clause-keys c = λ k all. key-keys k (λ key. key.0 ≤ most_steps) all

pub returns-clause-ahead : goal.returns-clause-ahead
returns-clause-ahead c = λ k most. key-ahead k most

pub returns-clause-stop : goal.returns-clause-stop
returns-clause-stop c = λ k. key-stop k
