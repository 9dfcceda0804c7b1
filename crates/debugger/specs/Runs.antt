-- How steps and lines of the debugger end.
use Rattle.std.specs.Prelude.{ℕ, ◌≡◌, ◌≤◌, ◌⊎◌, List, Some, Result, Ok, Err}
use Rattle.kernel_model.specs.KernelRecord.Ranges.{most_steps}
use Rattle.debugger.specs.MachineHistory.Pasts.{state_back}
use Rattle.tripos_machine.specs.State.{State, steps_of}
use Rattle.tripos_machine.specs.Step.{run}
use Rattle.debugger.specs.declared.limits.Limits.{Limits}
use Rattle.debugger.specs.Debugged.{Debugging, HasDebugged, Told, past_of, steps_left}

-- n steps were taken, or others, at most so many, where the sink failed
abbrev pub EndsSteps : {T E : Type 0} → ℕ → ℕ → State → State → Result T E → Type 0
EndsSteps n most s t (Ok x) = t ≡ (run n s).state
EndsSteps n most s t (Err e) = HasDebugged most s t

-- the steps of the machine are those between the beginning and the end of a call
pub record IsWithin (c : Limits) (s : State) : Type 0 where
  -- no fewer than at the beginning
  pub begun : c.first ≤ steps_of s
  -- no more than at the end
  pub short : steps_of s ≤ c.last
  -- which are steps that a machine may take
  pub most : c.last ≤ most_steps

-- what was told was done, or the sink failed, after some steps, at most those that were left
abbrev pub EndsTold : {T E : Type 0} → Limits → Debugging → Told → State → List ℕ → Result T E → Type 0
EndsTold c d told t stops (Ok x) = (t ≡ told.after.state) × (stops ≡ told.after.stops)
EndsTold c d told t stops (Err e) = HasDebugged (steps_left c d.state) d.state t

-- the same where a history is kept: the sink failed after some steps, or when some had been undone
abbrev pub EndsToldBack : {T E : Type 0} → Limits → Debugging → Told → State → List ℕ → List State → Result T E → Type 0
EndsToldBack c d told t stops past (Ok x) = (t ≡ told.after.state) × (stops ≡ told.after.stops) × (Some past ≡ told.after.past)
EndsToldBack c d told t stops past (Err e) = HasDebugged (steps_left c d.state) d.state t ⊎ ((n : ℕ) × (t ≡ state_back n (past_of d) d.state))
