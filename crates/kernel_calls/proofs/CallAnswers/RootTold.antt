-- Words of the root, as a store tells them.
use Rattle.std.proofs.Common.{◌≡◌, ℕ, List, get_or}
use Rattle.kernel_model.specs.KernelRecord.HoldsLists.{HoldsLists}
use Rattle.kernel_model.specs.KernelRecord.Lists.{Lists, address_of_task}
use Rattle.kernel_model.specs.KernelRecord.Owned.{owned}

-- where the running task is
pub running-word : (s : List ℕ) (l : Lists) → HoldsLists s l → get_or s 102 0 ≡ address_of_task l l.running
unfolding owned
running-word s l h = h.holds.1.0

-- how many ticks there were
pub tick-told : (s : List ℕ) (l : Lists) → HoldsLists s l → get_or s 108 0 ≡ l.tick
unfolding owned
tick-told s l h = h.holds.1.1.1.0
