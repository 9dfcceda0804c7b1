-- A guest with other flags, held or not, and of another priority.
use Rattle.std.proofs.Common.{◌≡◌, ℕ, ◌≤◌, Bool, true}
use Rattle.kernel_model.specs.KernelRecord.Lists.{Lists}
use Rattle.kernel_model.specs.KernelRecord.Task.{Task, is_guest_id}
use Rattle.kernel_model.specs.KernelRecord.ValidTasks.{IsTask}

abbrev pub altered : ℕ → Bool → ℕ → Task → Task
altered flags held priority t = record t { flags = flags; held = held; priority = priority }

pub IsTask-altered : (l : Lists) (t : Task) (flags : ℕ) (held : Bool) (priority : ℕ) → 1 ≤ priority → priority ≤ 10000 → is_guest_id t.id ≡ true → IsTask l t → IsTask l (altered flags held priority t)
IsTask-altered l t flags held priority low high guest h =
    record {
      low = low;
      high = high;
      maker = h.maker;
      field = h.field;
      byte = h.byte;
      guest = λ is.
          let g = h.guest is in
          record { high = g.high; block = g.block; some_module = g.some_module; most = g.most; modules = g.modules; fault = g.fault; unreported = g.unreported };
      resident = λ is. cc;
    }
