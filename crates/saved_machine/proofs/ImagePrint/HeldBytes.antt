-- The bytes that pipes hold.
use Rattle.std.proofs.Common.{◌≡◌, ℕ, ◌-◌, ◌≤◌, ◌==◌, Bool, true, false, cond, Option, Some, None, List, length, refl, arith}
use Rattle.kernel_model.specs.KernelRecord.Kernel.{Pipe}
use Rattle.kernel_model.specs.KernelRecord.Pipes.{ArePipes, pipe_at}
use Rattle.resident_tasks.specs.PipeHandler.PipeCalls.{held_by, pipe_numbered}

-- a pipe holds at most 1,024
pub held-room : (ps : List (Option Pipe)) → ArePipes ps → (k : ℕ) → length (held_by (pipe_numbered ps k)) ≤ 1024
held-room ps h k = by (k == 0)
  where
    here : (o : Option Pipe) → pipe_at ps (k - 1) ≡ o → length (held_by o) ≤ 1024
    here None is = omega arith
    here (Some p) is = (h.each (k - 1) p is).room

    by : (b : Bool) → length (held_by (cond b None (pipe_at ps (k - 1)))) ≤ 1024
    by true = omega arith
    by false = here (pipe_at ps (k - 1)) refl
