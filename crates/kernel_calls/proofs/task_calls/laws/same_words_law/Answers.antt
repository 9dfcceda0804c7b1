use Rattle.kernel_calls.proofs.TaskCalls.SameWords.{change_pri-owners, hold-owners, release-owners, set_flags-owners, test_flags-owners}
use Rattle.kernel_calls.proofs.task_calls.laws.same_words_law.Goals as goal

pub returns-clause-hold : goal.returns-clause-hold
returns-clause-hold c = λ s l id a h. hold-owners s l h a id

pub returns-clause-release : goal.returns-clause-release
returns-clause-release c = λ s l id a h. release-owners s l h a id

pub returns-clause-set_flags : goal.returns-clause-set_flags
returns-clause-set_flags c = λ s l id flags a h. set_flags-owners s l h a id flags

pub returns-clause-test_flags : goal.returns-clause-test_flags
returns-clause-test_flags c = λ s l mask a h k. test_flags-owners s l h a mask k

pub returns-clause-change_pri : goal.returns-clause-change_pri
returns-clause-change_pri c = λ s l id pri a h. change_pri-owners s l h a id pri
