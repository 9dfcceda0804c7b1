-- Which modules there are.
use Rattle.std.specs.Prelude.{ℕ, Bool, map}
use Rattle.kernel_lists.specs.LinkedList.Places.{has}
use Rattle.kernel_lists.specs.HunkLoader.HeldModules.{module_address}
use Rattle.kernel_model.specs.KernelRecord.Lists.{Lists}

-- there is a module at the address
abbrev pub has_module : Lists → ℕ → Bool
has_module l m = has m (map module_address l.modules)
