-- What the calls on one task share.
use Rattle.std.specs.Prelude.{ℕ, ◌==◌, ◌&&◌, Bool}
use Rattle.std.specs.List.{list_any}
use Rattle.kernel_model.specs.KernelRecord.Lists.{Lists}

-- whether the task with the number is held
abbrev pub is_held : Lists → ℕ → Bool
is_held l id = list_any (λ t. (t.id == id) && t.held) l.tasks
