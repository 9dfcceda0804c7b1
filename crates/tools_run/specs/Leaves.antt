-- What a call takes from its source, and what it leaves there.
use Rattle.std.specs.Prelude.{ℕ, List, Option, Some, None}
use Rattle.std.specs.Io.KnownBytes.{Keeps}
use Rattle.program_answers.specs.Input.{InputLeaves, IsUsageEnd}
use Rattle.program_answers.specs.declared.status.Status.{Status}
use Rattle.tools_run.specs.declared.commands.Asked.{Asked}

-- words that ask for nothing read nothing, and get the usage
abbrev pub Leaves : Option Asked → Option (List ℕ) → Option (List ℕ) → Status → Type 0
Leaves None old new status = Keeps old new × IsUsageEnd status
Leaves (Some asked) old new status = InputLeaves old new status
