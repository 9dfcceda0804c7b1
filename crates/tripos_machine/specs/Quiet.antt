-- Steps of which nobody outside the machine sees anything.
use Rattle.std.specs.Prelude.{◌≡◌, ℕ, None}
use Rattle.kernel_machine.specs.RunningMachine.Runs.{IsIdle as IsKernelIdle}
use Rattle.tripos_machine.specs.State.{State, stop_of}
use Rattle.tripos_machine.specs.State.State.{Bare, Full}
use Rattle.tripos_machine.specs.Step.{quietly, run}

-- n steps, of which none writes or notes anything, or stops the machine
pub record AreQuiet (n : ℕ) (s : State) : Type 0 where
  -- they write and note nothing
  pub quiet : run n s ≡ quietly (run n s).state
  -- the machine goes on
  pub goes : stop_of (run n s).state ≡ None

-- Nobody runs, and no device acts in the next step. On a machine without a kernel its program always runs.
abbrev pub IsIdle : State → Type 0
IsIdle (Bare m) = ⊥
IsIdle (Full k) = IsKernelIdle k
