-- A ring at one moment, and before its first round.
use Rattle.std.specs.Prelude.{ℕ, List, []}
use Rattle.machine_ring.specs.declared.ring_link.inputs.RingInput.{RingInput}
use Rattle.tripos_machine.specs.State.{State}
use Rattle.machine_ring.specs.Links.{Link, new_link}
use Rattle.machine_ring.specs.declared.terms.Terms.{Terms}

-- the machine whose console bytes go over the link
pub record Left : Type 0 where
  -- its state
  pub state : State
  -- those of its console bytes that are not acknowledged, the first one first
  pub waiting : List ℕ

-- two machines, and what is between them
pub record Ring : Type 0 where
  -- the machine whose console bytes go over the link
  pub left : Left
  -- the link
  pub link : Link
  -- the machine at which these bytes are typed
  pub right : State

-- the ring of these two machines, and of what is between them
abbrev pub ring_with : Left → Link → State → Ring
ring_with left link right = record { left = left; link = link; right = right }

-- what is set for the ring of an input
abbrev pub terms_of : RingInput → Terms
terms_of input = record {
  rounds = input.rounds;
  wait = input.wait;
  link = input.link;
  acks = input.acks;
  left_steps = input.left.go;
  right_steps = input.right.go;
}

-- two machines, and nothing between them yet
abbrev pub first_ring : Terms → State → State → Ring
first_ring terms left right = record { left = record { state = left; waiting = [] }; link = new_link terms; right = right }
