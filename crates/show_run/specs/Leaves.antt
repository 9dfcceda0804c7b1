-- What a call takes from its source, and what it leaves there.
use Rattle.std.specs.Prelude.{ℕ, List, Option, Some, None}
use Rattle.std.specs.Io.KnownBytes.{Keeps}
use Rattle.program_answers.specs.Input.{InputLeaves, IsUsageEnd}
use Rattle.program_answers.specs.declared.status.Status.{Status}
use Rattle.show_run.specs.ValueTries.TryWords.{Asked}
use Rattle.show_run.specs.declared.commands.Show.{Show}
use Rattle.show_run.specs.declared.tellings.Telling.{Telling}

-- words that ask for nothing read nothing, and get the usage
abbrev pub Leaves : Option Show → Option (List ℕ) → Option (List ℕ) → Status → Type 0
Leaves None old new status = Keeps old new × IsUsageEnd status
Leaves (Some asked) old new status = InputLeaves old new status

-- words that ask for a bundle to be told
abbrev pub LeavesTold : Option Telling → Option Show → Option (List ℕ) → Option (List ℕ) → Status → Type 0
LeavesTold None asked old new status = Leaves asked old new status
LeavesTold (Some telling) asked old new status = InputLeaves old new status

-- words that ask for tries of values
abbrev pub LeavesAsked : Option Asked → Option Telling → Option Show → Option (List ℕ) → Option (List ℕ) → Status → Type 0
LeavesAsked None telling asked old new status = LeavesTold telling asked old new status
LeavesAsked (Some tries) telling asked old new status = InputLeaves old new status
