use Rattle.std.proofs.Common.{◌+◌, ◌≤◌, List, ℕ}
use Rattle.kernel_model.specs.KernelRecord.Ranges.{most_steps}
use Rattle.kernel_model.specs.KernelRecord.Kernel.{Kernel}
use Rattle.kernel_machine.specs.KernelSteps.Step.{run}
use Rattle.kernel_machine.specs.declared.running_machine.parts.Parts.{Parts}
use Rattle.kernel_machine.specs.RunningMachine.Runs.{Avoids, IsOnWay}
use Rattle.kernel_machine.proofs.RunningMachine.UncountedSteps.{IsCounting}
use Rattle.kernel_machine.proofs.running_machine.spans.execute_to_breakpoint.Given as goal

-- the parts p have become q by so many instructions, of at most `most`, and neither they nor the next one meets a breakpoint
pub record IsLooking (breakpoints : List ℕ) (p q : Parts) (most taken : ℕ) : Type 0 where
  -- the instructions are still to be counted
  pub counting : IsCounting p q most taken
  -- from the second one on none is at a breakpoint, up to the next
  pub between : (k : Kernel) (n m : ℕ) → IsOnWay k n m p → most ≤ m → k.steps + (n + m) ≤ most_steps → Avoids breakpoints (taken + 1) (run n k).kernel

abbrev pub invariant-loop-taken : goal.invariant-loop-taken
invariant-loop-taken l = IsLooking l.breakpoints l.fn.parts l.parts l.most l.taken
