-- What a call takes from its source, and what it leaves there.
use Rattle.std.specs.Prelude.{ℕ, List, Option, Some, None}
use Rattle.std.specs.Io.KnownBytes.{Keeps}
use Rattle.program_answers.specs.Input.{InputLeaves, IsTextEnd, IsUsageEnd}
use Rattle.program_answers.specs.declared.status.Status.{Status}
use Rattle.program_answers.specs.declared.status.Status.TheVariants.{Done, GuestFault, WriteFault}
use Rattle.tripos_run.specs.declared.commands.Job.{Job}
use Rattle.tripos_run.specs.declared.commands.Job.TheVariants.{Answer, Generate}

-- words that ask for nothing read nothing, and get the usage; nor does a session that is generated read an input
abbrev pub Leaves : Option Job → Option (List ℕ) → Option (List ℕ) → Status → Type 0
Leaves None old new status = Keeps old new × IsUsageEnd status
Leaves (Some (Answer command)) old new status = InputLeaves old new status
Leaves (Some (Generate n)) old new status = Keeps old new × IsTextEnd status

-- a machine that has booted is run, unless the sink fails: it wants no memory
abbrev pub IsMachineEnd : Status → Type 0
IsMachineEnd Done = Unit {0}
IsMachineEnd GuestFault = Unit {0}
IsMachineEnd WriteFault = Unit {0}
IsMachineEnd _ = ⊥
