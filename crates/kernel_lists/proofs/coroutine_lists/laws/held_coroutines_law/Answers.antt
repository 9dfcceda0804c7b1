use Rattle.kernel_lists.proofs.Coroutines.HeldCoroutineLists.{held-coroutines}
use Rattle.kernel_lists.proofs.coroutine_lists.laws.held_coroutines_law.Goals as goal

pub returns-clause-valid : goal.returns-clause-valid
returns-clause-valid c = λ s t cs act h. (held-coroutines s t act cs h).valid

pub returns-clause-coroutines : goal.returns-clause-coroutines
returns-clause-coroutines c = λ s t cs act h. (held-coroutines s t act cs h).list

pub returns-clause-active : goal.returns-clause-active
returns-clause-active c = λ s t cs act h. (held-coroutines s t act cs h).active
