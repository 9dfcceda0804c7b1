-- A round of a ring. In its five parts the left machine takes a step, the sender has a turn, data comes and a byte is typed, an
-- acknowledgement comes, and the right machine takes a step.
use Rattle.std.specs.Prelude.{ℕ, ◌&&◌, if◌then◌else◌, Bool, false, Option, Some, None, List, [], ◌++◌, drop, is_none, length, nat_le, nat_lt, slice_get}
use Rattle.tripos_machine.specs.State.{State, steps_of, stop_of, typed}
use Rattle.tripos_machine.specs.State.State.{Bare, Full}
use Rattle.tripos_machine.specs.Step.{step}
use Rattle.machine_ring.specs.Links.{carried, carried_byte, carries_back, listed}
use Rattle.machine_ring.specs.Rings.{Left, Ring}
use Rattle.machine_ring.specs.declared.terms.TheConstants.{MOST_WAITING}

-- the machine has not stopped, and has taken fewer steps than so many
abbrev pub can_step : ℕ → State → Bool
can_step most s = is_none (stop_of s) && nat_lt (steps_of s) most

-- ---- the left machine

-- whether the left machine takes a step in this round: it can, and at most so many bytes wait
abbrev pub left_steps : ℕ → Left → Bool
left_steps most x = nat_le (length x.waiting) MOST_WAITING && can_step most x.state

-- the left machine takes a step, and its console bytes wait then
abbrev pub with_step : Left → Left
with_step x = record { state = (step x.state).state; waiting = x.waiting ++ (step x.state).bytes }

-- the left machine takes a step where it may take one in this round, and else stays
abbrev pub after_step : ℕ → Left → Left
after_step most x = if left_steps most x then with_step x else x

-- the bytes that it writes
abbrev pub offered_by : ℕ → Left → List ℕ
offered_by most x = if left_steps most x then (step x.state).bytes else []

-- once it is acknowledged, the first byte waits no longer
abbrev pub after_answer : Bool → Left → Left
after_answer acknowledged x = if acknowledged then record x { waiting = drop 1 x.waiting } else x

-- ---- the right machine

-- there is room for a byte more that is typed ahead; a machine without a kernel has no room
abbrev pub has_room : State → Bool
has_room (Bare m) = false
has_room (Full k) = nat_lt (length k.type_ahead) 128

-- a byte is typed ahead, where there is one
abbrev pub with_typing : Option ℕ → State → State
with_typing None s = s
with_typing (Some byte) s = typed byte s

-- the right machine after its part of the round: it takes a step where it can
abbrev pub right_after : ℕ → State → State
right_after most s = if can_step most s then (step s).state else s

-- the bytes that it writes
abbrev pub shown_by : ℕ → State → List ℕ
shown_by most s = if can_step most s then (step s).bytes else []

-- ---- the round

-- what rounds leave
pub record Rounded : Type 0 where
  -- the ring after them
  pub ring : Ring
  -- the bytes that the right machine wrote to its console
  pub shown : List ℕ
  -- the bytes that the left machine wrote to its console
  pub offered : List ℕ
  -- those bytes that were typed at the right machine
  pub delivered : List ℕ

-- the left machine after its step
abbrev pub stepped : Ring → Left
stepped r = after_step r.link.terms.left_steps r.left

-- the byte that waits first then
abbrev pub first_of : Ring → Option ℕ
first_of r = slice_get (stepped r).waiting 0

-- the byte that comes to the right machine
abbrev pub byte_in : Ring → Option ℕ
byte_in r = carried_byte (first_of r) (has_room r.right) r.link

-- the right machine before its step, once a byte that has come is typed
abbrev pub right_before : Ring → State
right_before r = with_typing (byte_in r) r.right

-- the ring once a round is over
abbrev pub after_round : Ring → Ring
after_round r = record {
  left = after_answer (carries_back (first_of r) (has_room r.right) r.link) (stepped r);
  link = carried (first_of r) (has_room r.right) r.link;
  right = right_after r.link.terms.right_steps (right_before r);
}

-- a round, and what it told of bytes: those shown, offered to the sender and typed at the right machine
unfoldable pub round : Ring → Rounded
round r = record {
  ring = after_round r;
  shown = shown_by r.link.terms.right_steps (right_before r);
  offered = offered_by r.link.terms.left_steps r.left;
  delivered = listed (byte_in r);
}
