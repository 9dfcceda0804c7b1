use Rattle.kernel_calls.proofs.RefusedCalls.{call-refused, same-store}
use Rattle.kernel_calls.proofs.laws.refusal_law.Goals as goal

pub returns-clause-call : goal.returns-clause-call
returns-clause-call c = λ s l r code is. call-refused s l r code is

pub returns-clause-store : goal.returns-clause-store
returns-clause-store c = λ s t l r code h x. same-store s t l h x
