-- A keeper that is told nothing, and so knows the words of any lists.
use Rattle.std.proofs.Common.{ℕ, List, length, arith}
use Rattle.kernel_model.specs.KernelRecord.ChangedStore.{HasKeeper}
use Rattle.kernel_model.specs.KernelRecord.HoldsLists.{HoldsLists}
use Rattle.kernel_model.specs.KernelRecord.Lists.{Lists}

abbrev pub tells_nothing : List ℕ → Type 0
tells_nothing known = Unit {0}

pub no-keeper : (s : List ℕ) (l : Lists) → HoldsLists s l → HasKeeper s tells_nothing (length s) l
no-keeper s l h = record { lists = h; knows = λ _ _. tt; enough = omega arith }
