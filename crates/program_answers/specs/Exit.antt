-- The exit status of the program.
use Rattle.std.specs.Prelude.{ℕ}
use Rattle.program_answers.specs.declared.status.Status.{Status}
use Rattle.program_answers.specs.declared.status.Status.TheVariants.{Done, GuestFault, Usage, Refused, NoBoot, ReadFault, WriteFault, TooLong, WantMemory}

-- the number that each status is for the process
abbrev pub exit_code : Status → ℕ
exit_code Done = 0
exit_code Usage = 2
exit_code Refused = 3
exit_code NoBoot = 4
exit_code ReadFault = 5
exit_code WriteFault = 6
exit_code TooLong = 7
exit_code WantMemory = 8
exit_code GuestFault = 10
