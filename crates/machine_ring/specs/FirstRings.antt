-- A ring before its first round as the code has it.
use Rattle.std.specs.Prelude.{◌≡◌, ◌≤◌, None}
use Rattle.kernel_model.specs.KernelRecord.Ranges.{most_steps}
use Rattle.tripos_machine.specs.State.{stop_of}
use Rattle.machine_ring.specs.Rings.{Ring, first_ring}
use Rattle.machine_ring.specs.declared.rings.Ring.TheInside.{Inside}

-- the ring that these parts are
abbrev pub ring_of : Inside → Ring
ring_of x = record { left = x.left; link = x.link; right = x.right.state }

-- These parts are a ring before its first round, which may begin.
pub record IsFirst (x : Inside) : Type 0 where
  -- nothing is between the two machines
  pub first : ring_of x ≡ first_ring x.link.terms x.left.state x.right.state
  -- the right machine has not stopped
  pub goes : stop_of x.right.state ≡ None
  -- the left machine takes no more steps than a machine may take
  pub left_steps : x.link.terms.left_steps ≤ most_steps
  -- nor does the right one
  pub right_steps : x.link.terms.right_steps ≤ most_steps
