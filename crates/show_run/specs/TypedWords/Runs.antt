-- Where words leave the machine of a session.
use Rattle.std.specs.Prelude.{ℕ, ◌≡◌, ◌≤◌, Ok}
use Rattle.session_text.specs.declared.sessions.Session.{Session}
use Rattle.debugger.specs.declared.limits.Limits.{Limits}
use Rattle.tripos_machine.specs.Boot.{boot}
use Rattle.tripos_machine.specs.State.{State, steps_of}
use Rattle.tripos_machine.specs.Step.{Stepped, run}

-- the session boots
abbrev pub Boots : Session → Type 0
Boots session = (first : Stepped) × boot session ≡ Ok first

-- The session boots, and this is its machine after so many steps.
pub record IsAfter (session : Session) (steps : ℕ) (s : State) : Type 0 where
  -- the machine of the boot
  pub first : Stepped
  -- that has taken no step
  pub none : steps_of first.state ≡ 0
  -- the session boots so
  pub boots : boot session ≡ Ok first
  -- the machine is as it is after the steps
  pub state : s ≡ (run steps first.state).state

-- The session boots, and this is its machine after as many steps as it has taken, which are no more than those of its GO line.
pub record IsRun (session : Session) (s : State) : Type 0 where
  -- it is the run of so many steps
  pub after : IsAfter session (steps_of s) s
  -- which there may be
  pub few : steps_of s ≤ session.go

-- the steps before the words, and those that there may be after them
abbrev pub limits_of : Session → Limits
limits_of session = record { first = 0; last = session.go }
