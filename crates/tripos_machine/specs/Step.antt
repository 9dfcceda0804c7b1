-- A step of a machine of either kind, and a run.
use Rattle.std.specs.Prelude.{ℕ, zero, suc, List, [], ◌++◌}
use Rattle.bare_machine.specs.Step.{BareStepped, step as bare_step}
use Rattle.kernel_lists.specs.declared.packet_queue.events.KernelEvent.{KernelEvent}
use Rattle.kernel_machine.specs.KernelSteps.Step.{boot_events as kernel_boot_events, step as kernel_step}
use Rattle.kernel_machine.specs.KernelSteps.Stepped.{Stepped as KernelStepped}
use Rattle.tripos_machine.specs.State.{State}
use Rattle.tripos_machine.specs.State.State.{Bare, Full}

-- the state after some steps, the bytes that they wrote to the console, and their events
pub record Stepped : Type 0 where
  -- the state after the step
  pub state : State
  -- the bytes that went to the console
  pub bytes : List ℕ
  -- the events, in their order
  pub events : List KernelEvent

-- a state that steps come to without writing anything, and without events
abbrev pub quietly : State → Stepped
quietly s = record { state = s; bytes = []; events = [] }

-- first the one, and then what follows on it
abbrev pub and_then : Stepped → (State → Stepped) → Stepped
and_then x next = record { state = (next x.state).state; bytes = x.bytes ++ (next x.state).bytes; events = x.events ++ (next x.state).events }

-- a machine without a kernel has no events
abbrev pub of_bare : BareStepped → Stepped
of_bare x = record { state = Bare x.state; bytes = x.bytes; events = [] }

-- what steps of a machine with a kernel come to, as those of a machine of either kind
abbrev pub of_kernel : KernelStepped → Stepped
of_kernel x = record { state = Full x.kernel; bytes = x.bytes; events = x.events }

-- a step, by the kind of the machine
abbrev pub step : State → Stepped
step (Bare m) = of_bare (bare_step m)
step (Full k) = of_kernel (kernel_step k)

-- n steps
unfoldable pub run : ℕ → State → Stepped
run zero s = quietly s
run (suc n) s = and_then (step s) (run n)

-- the events before the first step
abbrev pub boot_events : State → List KernelEvent
boot_events (Bare m) = []
boot_events (Full k) = kernel_boot_events k
