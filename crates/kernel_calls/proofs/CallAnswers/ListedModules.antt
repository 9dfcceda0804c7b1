-- The modules, as a store lists them.
use Rattle.std.proofs.Common.{◌≡◌, ℕ, List, ap}
use Rattle.kernel_lists.specs.LinkedList.Places.{has}
use Rattle.kernel_lists.proofs.HunkLoader.HeldModuleLists.{held-modules}
use Rattle.kernel_lists.specs.TaskBlock.Lists.{modules_in}
use Rattle.kernel_model.specs.KernelRecord.HoldsLists.{HoldsLists}
use Rattle.kernel_model.specs.KernelRecord.Lists.{Lists}
use Rattle.kernel_calls.specs.CallAnswers.Modules.{has_module}
use Rattle.kernel_calls.proofs.CallAnswers.FoundTask.{reads}

pub module-told : (s : List ℕ) (l : Lists) (m : ℕ) → HoldsLists s l → has m (modules_in s) ≡ has_module l m
module-told s l m h = ap (has m) (held-modules s l.modules (reads s l h).modules).list
