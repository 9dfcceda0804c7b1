-- The left machine as the code has it: its bytes that wait are those that are held, and then those of its output after the ones taken.
use Rattle.std.specs.Prelude.{◌≡◌, ◌≤◌, ◌++◌, drop, length}
use Rattle.machine_ring.specs.Rings.{Left}
use Rattle.machine_ring.specs.declared.left.LeftEnd.TheInside.{Inside}
use Rattle.machine_ring.specs.declared.terms.TheConstants.{MOST_WAITING}

-- the left machine with its bytes that wait, in the order in which it wrote them
abbrev pub left_of : Inside → Left
left_of x = record { state = x.machine.state; waiting = x.held.items ++ drop x.taken x.machine.output }

-- There is room for all bytes that may wait, and no more bytes are taken than the machine wrote.
pub record IsLeftEnd (x : Inside) : Type 0 where
  -- there is room for as many bytes as may wait where the machine takes a step
  pub room : x.held.capacity ≡ MOST_WAITING
  -- no more are held
  pub held : length x.held.items ≤ MOST_WAITING
  -- no more bytes of the machine's output are taken than there are
  pub taken : x.taken ≤ length x.machine.output
