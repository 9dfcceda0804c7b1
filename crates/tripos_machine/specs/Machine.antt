-- A machine of either kind, as contracts see it.
use Rattle.std.specs.Prelude.{◌≡◌, ℕ, List, [], None, Result, Ok, Err}
use Rattle.module_text.specs.TextReader.Refusal.{Refusal}
use Rattle.session_text.specs.declared.boot_ends.BootEnd.{BootEnd}
use Rattle.tripos_machine.specs.Boot.{EndsAs}
use Rattle.tripos_machine.specs.State.{State, keys_to_come, steps_of, stop_of}
use Rattle.tripos_machine.specs.State.State.{Bare, Full}
use Rattle.tripos_machine.specs.Step.{Stepped, boot_events}
use Rattle.tripos_machine.specs.declared.kinds.Kind.{Kind}
use Rattle.tripos_machine.specs.declared.kinds.Kind.TheVariants.{Bare as BareKind, Full as FullKind}

-- its state, all keys of its script, and the bytes of its last step
pub record MachineView : Type 0 where
  -- the state
  pub state : State
  -- all keys of its script, those that have come too: each the step at which it is due, and its byte; a bare machine has none
  pub keys : List (ℕ × ℕ)
  -- the bytes for the console that were not taken yet
  pub output : List ℕ

-- what contracts see of a machine of each kind
abbrev pub view_of : Kind → MachineView
view_of (BareKind m) = record { state = Bare m.state; keys = []; output = m.output }
view_of (FullKind m) = record { state = Full m.kernel; keys = m.keys; output = m.output }

-- the machine is as the session boots it: it has taken no step, and its events are those of a boot
pub record IsBooted (m : MachineView) (x : Stepped) : Type 0 where
  -- the machine has the state
  pub state : m.state ≡ x.state
  -- no byte waits for the console
  pub output : m.output ≡ []
  -- the events are those of the boot
  pub events : x.events ≡ boot_events x.state
  -- all its keys are still to come
  pub keys : m.keys ≡ keys_to_come x.state
  -- no step was taken
  pub steps : steps_of x.state ≡ 0
  -- it has not stopped
  pub goes : stop_of x.state ≡ None

-- what a booting function returned is what the definition gives, unless memory ran out
abbrev pub BootsAs : Result MachineView BootEnd → Result Stepped Refusal → Type 0
BootsAs (Ok m) booted = (x : Stepped) × (booted ≡ Ok x) × IsBooted m x
BootsAs (Err e) booted = EndsAs e booted
