use Rattle.kernel_machine.proofs.KernelSteps.TurnKept.{numbers-turn, turn-dispatch, turn-keys, turn-same}
use Rattle.kernel_machine.proofs.KernelSteps.TurnRules.{turn-rules}
use Rattle.kernel_machine.proofs.KernelSteps.TurnWays.{turn-nobody}
use Rattle.kernel_machine.proofs.kernel_steps.turn_laws.turn_law.Goals as goal

pub returns-clause-dispatch : goal.returns-clause-dispatch
returns-clause-dispatch c = λ k can. turn-dispatch k can

pub returns-clause-numbers : goal.returns-clause-numbers
returns-clause-numbers c = λ k can. numbers-turn k can

pub returns-clause-rules : goal.returns-clause-rules
returns-clause-rules c = λ k can disc. turn-rules k can disc

pub returns-clause-same : goal.returns-clause-same
returns-clause-same c = λ k. turn-same k

pub returns-clause-keys : goal.returns-clause-keys
returns-clause-keys c = λ k. turn-keys k

pub returns-clause-nobody : goal.returns-clause-nobody
returns-clause-nobody c = λ k nobody. turn-nobody k nobody
