use Rattle.kernel_lists.proofs.HunkLoader.HeldModuleLists.{held-modules}
use Rattle.kernel_lists.proofs.hunk_loader.laws.held_modules_law.Goals as goal

pub returns-clause-modules : goal.returns-clause-modules
returns-clause-modules c = λ s ms h. (held-modules s ms h).modules

pub returns-clause-list : goal.returns-clause-list
returns-clause-list c = λ s ms h. (held-modules s ms h).list
