-- The shell prompts, also after it has told the code of a refusal.
use Rattle.std.specs.Prelude.{ℕ, Result, Ok, Err, List, codes}
use Rattle.kernel_model.specs.KernelRecord.Kernel.Mode.{Reading}
use Rattle.shell.specs.ShellListings.NumberLines.{error_line}
use Rattle.shell.specs.ShellPrograms.ShellPacket.{post_events, requested}
use Rattle.kernel_model.specs.declared.kernel_record.numbers.TheConstants.{CONSOLE}
use Rattle.resident_tasks.specs.declared.console_handler.requests.TheConstants.{READ_LINE}
use Rattle.shell.specs.TurnParts.{ShellTurn, and_then, in_mode, shown}

-- the text by which the shell says that it reads a line
abbrev pub prompt : List ℕ
prompt = codes "> "

-- the shell's packet goes to the task with the number, as a request of this type
abbrev pub with_packet_sent : ℕ → ℕ → ShellTurn → ShellTurn
with_packet_sent to kind x = and_then (requested to kind x.store) (post_events to) x

-- the shell prompts: it writes the prompt, asks the console for a line, and reads that next
abbrev pub prompted : ShellTurn → ShellTurn
prompted x = in_mode Reading (with_packet_sent CONSOLE READ_LINE (shown prompt x))

-- the shell tells a code, and prompts
abbrev pub refused : ℕ → ShellTurn → ShellTurn
refused code x = prompted (shown (error_line code) x)

-- a command that was done, or refused
abbrev pub answered : {A : Type 0} → Result A ℕ → ShellTurn → ShellTurn
answered (Ok a) x = prompted x
answered (Err code) x = refused code x
