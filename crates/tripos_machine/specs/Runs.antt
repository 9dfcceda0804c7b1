-- How a run ends.
use Rattle.std.specs.Prelude.{◌≡◌, ◌<◌, ◌≤◌, ◌+◌, ◌-◌, ◌⊎◌, ℕ, Bool, true, false, Option, Some, None, List, Result, Ok, Err}
use Rattle.byte_streams.specs.Faults.{Rose}
use Rattle.kernel_model.specs.declared.kernel_record.stops.Stop.{Stop}
use Rattle.kernel_model.specs.declared.kernel_record.stops.Stop.TheVariants.{Steps}
use Rattle.kernel_model.specs.KernelRecord.NotedEvents.{NotesAll}
use Rattle.kernel_lists.specs.declared.packet_queue.events.KernelEvent.{KernelEvent}
use Rattle.tripos_machine.specs.State.{State, stop_of}
use Rattle.tripos_machine.specs.Step.{run}

-- a run of a machine that has not stopped has taken all its steps
abbrev pub end_of_run : Option Stop → Stop
end_of_run None = Steps
end_of_run (Some stop) = stop

-- n steps of the state s, which left t, and of which the events went to the log, or the first of them where it failed
pub record HasRun (n : ℕ) (s t : State) (old new : Option (List KernelEvent)) (had_failed has_failed : Bool) : Type 0 where
  -- the state after the steps
  pub state : t ≡ (run n s).state
  -- their events went to the log
  pub events : NotesAll old new had_failed has_failed (run n s).events

-- The output that at most n steps leave, which lead from s to t: what the last of them wrote, one at least, before each of which the
-- machine had not stopped; and what there was where none was taken.
abbrev pub LeavesOutput : ℕ → State → State → List ℕ → List ℕ → Type 0
LeavesOutput n s t old new =
    ((t ≡ s) × (new ≡ old))
    ⊎ ((i j : ℕ) × (0 < j) × (i + j ≤ n) × (stop_of (run (j - 1) (run i s).state).state ≡ None) × (t ≡ (run (i + j) s).state) × (new ≡ (run j (run i s).state).bytes))

-- a log has failed, or the sink's count of faults rose
abbrev pub HasCause : ℕ → ℕ → Bool → Type 0
HasCause before now has_failed = Rose before now ⊎ (has_failed ≡ true)

-- A run of n steps has taken them all, or was cut off after some, where the sink or the log failed.
abbrev pub EndsRun : {E : Type 0} → ℕ → State → State → Option (List KernelEvent) → Option (List KernelEvent) → Bool → Bool → ℕ → ℕ → Result Stop E → Type 0
EndsRun n s t old new had_failed has_failed before now (Ok stop) =
    HasRun n s t old new had_failed has_failed × (stop ≡ end_of_run (stop_of t)) × (has_failed ≡ false)
EndsRun n s t old new had_failed has_failed before now (Err e) =
    ((i : ℕ) × (i ≤ n) × HasRun i s t old new had_failed has_failed) × HasCause before now has_failed
