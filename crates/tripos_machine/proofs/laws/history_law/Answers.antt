use Rattle.tripos_machine.proofs.Histories.{has-boot-history, has-history}
use Rattle.tripos_machine.proofs.laws.history_law.Goals as goal

pub returns-clause-run : goal.returns-clause-run
returns-clause-run c = λ n s sound few. has-history n s sound few

pub returns-clause-boot : goal.returns-clause-boot
returns-clause-boot c = λ n s x lawful is few. has-boot-history n s x lawful is few
