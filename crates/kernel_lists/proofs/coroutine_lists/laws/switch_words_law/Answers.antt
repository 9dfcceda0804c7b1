use Rattle.kernel_lists.proofs.Coroutines.SwitchExchanges.{call-answered, end-answered, resume-answered, wait-answered}
use Rattle.kernel_lists.proofs.coroutine_lists.laws.switch_words_law.Goals as goal

pub returns-clause-call : goal.returns-clause-call
returns-clause-call c = λ s t k regs x h answer. call-answered s t k h regs x answer

pub returns-clause-resume : goal.returns-clause-resume
returns-clause-resume c = λ s t k regs x h answer. resume-answered s t k h regs x answer

pub returns-clause-wait : goal.returns-clause-wait
returns-clause-wait c = λ s t k p pc h answer. wait-answered s t k h p pc answer

pub returns-clause-ended : goal.returns-clause-ended
returns-clause-ended c = λ s t k h within. end-answered s t k h within
