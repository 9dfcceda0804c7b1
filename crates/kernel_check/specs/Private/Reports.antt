-- A task with a number and a fault that was not reported yet.
use Rattle.std.specs.Prelude.{ℕ, ◌==◌, ◌&&◌, Bool}
use Rattle.kernel_model.specs.KernelRecord.Between.{is_unreported}
use Rattle.kernel_model.specs.KernelRecord.Task.{Task, is_guest_id}

-- whether a task is the guest with this number, and has a fault that was not reported yet
abbrev pub is_unreported_as : ℕ → Task → Bool
is_unreported_as id t = (t.id == id) && is_guest_id id && is_unreported t
