-- The words that an instruction of a guest may not write.
use Rattle.std.specs.Prelude.{ℕ, Bool, nat_lt}
use Rattle.kernel_lists.specs.OwnedWords.Owned.{owners}
use Rattle.kernel_model.specs.KernelRecord.Lists.{Lists}
use Rattle.kernel_model.specs.KernelRecord.Owned.{owned}

-- the word at the address is the kernel's
abbrev pub is_owned : Lists → ℕ → Bool
is_owned l a = nat_lt 0 (owners a (owned l))
