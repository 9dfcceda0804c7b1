-- What a log of lines has gathered for its sink.
use Rattle.std.specs.Prelude.{◌≡◌, ℕ, ◌≤◌, Bool, true, false, List, [], ◌++◌, Option, Result, Ok, Err}
use Rattle.std.specs.Bool.{OnFalse, OnTrue}
use Rattle.std.specs.List.{flat_map}
use Rattle.byte_streams.specs.Faults.{Rose}
use Rattle.byte_streams.specs.Pending.{IsGathered}
use Rattle.byte_streams.specs.Write.{AppendsPrefix}
use Rattle.kernel_lists.specs.PacketQueue.EventLine.{line_of}
use Rattle.kernel_lists.specs.declared.packet_queue.events.KernelEvent.{KernelEvent}

-- the lines of events in a trace
abbrev pub lines_of : List KernelEvent → List ℕ
lines_of events = flat_map line_of events

-- This text has gone to the sink, but for what is pending. Where a write has failed, a prefix of it has.
abbrev pub Reaches : Option (List ℕ) → Option (List ℕ) → List ℕ → List ℕ → (cut : Bool) → Type 0
Reaches first now pending text false = IsGathered first now [] pending text
Reaches first now pending text true = AppendsPrefix first now text

-- The sink held `first`, and has counted `first_faults`, when the log began; then `before` was pending. The lines of these events are
-- gathered after it; the count has not fallen, and has risen where a write has failed; and no note has failed before a write.
pub record Traced (first now : Option (List ℕ)) (first_faults faults : ℕ) (before pending : List ℕ) (line : KernelEvent → List ℕ) (events : List KernelEvent) (cut failed : Bool) : Type 0 where
  -- what was written and what waits are what waited and the lines of the events, or the front of it
  pub lines : Reaches first now pending (before ++ flat_map line events) cut
  -- the sink's count of faults has not fallen
  pub later : first_faults ≤ faults
  -- it rose where the lines were cut off
  pub rose : OnTrue cut (Rose first_faults faults)
  -- no write failed where they were not
  pub works : OnFalse cut (failed ≡ false)

-- This text has gone to the sink, but for what is given back; or a write has failed, and a prefix of it has.
abbrev pub GivesPending : {E : Type 0} → Option (List ℕ) → Option (List ℕ) → List ℕ → Result (List ℕ) E → Type 0
GivesPending first now text (Ok pending) = IsGathered first now [] pending text
GivesPending first now text (Err e) = AppendsPrefix first now text
