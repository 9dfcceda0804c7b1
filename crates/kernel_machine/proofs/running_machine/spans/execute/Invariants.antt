use Rattle.std.proofs.Common.{◌≡◌, ◌+◌, ◌-◌, ◌≤◌, List, ℕ, None}
use Rattle.kernel_machine.specs.declared.running_machine.parts.Parts.{Parts}
use Rattle.kernel_machine.specs.RunningMachine.Machine.{kernel_of}
use Rattle.kernel_machine.specs.RunningMachine.Runs.{Avoids, IsOnWay}
use Rattle.kernel_machine.proofs.running_machine.spans.execute.Given as goal

-- the parts p have become q by so many steps of at most `most`, and neither they nor the next one meets a breakpoint
pub record HasTaken (breakpoints : List ℕ) (p q : Parts) (most taken : ℕ) : Type 0 where
  pub few : taken ≤ most
  pub way : IsOnWay (kernel_of p None) taken (most - taken) q
  pub before : Avoids breakpoints (taken + 1) (kernel_of p None)
  pub keys : q.keys.keys ≡ p.keys.keys

abbrev pub invariant-loop-taken : goal.invariant-loop-taken
invariant-loop-taken l = HasTaken l.breakpoints l.fn.parts l.parts l.most l.taken

abbrev pub decreases-loop-taken : goal.decreases-loop-taken
decreases-loop-taken l = l.most - l.taken
