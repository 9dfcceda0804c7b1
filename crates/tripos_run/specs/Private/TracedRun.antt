-- A run whose events are gathered as lines.
use Rattle.std.specs.Prelude.{◌≡◌, ℕ, List, [], Option, Result, Ok, Err}
use Rattle.byte_streams.specs.Pending.{IsGathered}
use Rattle.byte_streams.specs.Write.{AppendsPrefix}
use Rattle.kernel_model.specs.declared.kernel_record.stops.Stop.{Stop}
use Rattle.tripos_machine.specs.Runs.{end_of_run}
use Rattle.tripos_machine.specs.State.{State, stop_of}

-- the state that is left is this one, and a run that left it ends so
abbrev pub StopsAt : State → Stop → State → Type 0
StopsAt left stop s = (left ≡ s) × (stop ≡ end_of_run (stop_of left))

-- These lines have gone to the sink, but for what is given back with the stop; or a write has failed, and a prefix of them has.
abbrev pub GivesLines : {E : Type 0} → Option (List ℕ) → Option (List ℕ) → List ℕ → Result (List ℕ × Stop) E → Type 0
GivesLines old new lines (Ok given) = IsGathered old new [] given.0 lines
GivesLines old new lines (Err e) = AppendsPrefix old new lines
