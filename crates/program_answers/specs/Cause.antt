-- When a call ends with the fault of its source, and when it may end with that of its sink.
use Rattle.std.specs.Prelude.{◌≡◌, ◌≢◌, ℕ, ◌≤◌}
use Rattle.byte_streams.specs.Faults.{Rose, one_more}
use Rattle.program_answers.specs.declared.status.Status.{Status}
use Rattle.program_answers.specs.declared.status.Status.TheVariants.{ReadFault}

-- The source failed once where the call ended with its fault, and not at all where it ended otherwise.
pub record HasReadCause (before now : ℕ) (status : Status) : Type 0 where
  -- it failed once where the status is that
  pub failed : status ≡ ReadFault → now ≡ one_more before
  -- it did not where the status is another
  pub worked : status ≢ ReadFault → now ≡ before

-- the count of faults has not fallen, and has risen where the call ended with this fault
pub record HasFaultCause (fault : Status) (before now : ℕ) (status : Status) : Type 0 where
  -- the count of faults has not fallen
  pub later : before ≤ now
  -- it rose where the status is this one
  pub failed : status ≡ fault → Rose before now
