use Rattle.module_text.proofs.ReadingOn.{reads_all, reads_none, reads_on}
use Rattle.module_text.proofs.laws.words_law.Goals as goal

pub returns-clause-all : goal.returns-clause-all
returns-clause-all c = reads_all

pub returns-clause-next : goal.returns-clause-next
returns-clause-next c = λ text words place word. reads_on text place word words

pub returns-clause-none : goal.returns-clause-none
returns-clause-none c = reads_none
