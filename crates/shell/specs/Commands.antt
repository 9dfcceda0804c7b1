-- What the shell does at each command.
use Rattle.std.specs.Prelude.{ℕ, true, Option, Some, None, Result, Ok, Err, List, []}
use Rattle.kernel_model.specs.KernelRecord.Kernel.Mode.{Waiting}
use Rattle.ram_disc.specs.DiscCalls.{Outcome, after_delete, after_rename}
use Rattle.kernel_calls.specs.CallAnswers.CallChange.{CallChange}
use Rattle.kernel_calls.specs.TaskCalls.ChangePri.{change_pri}
use Rattle.kernel_calls.specs.TaskCalls.HoldTask.{hold}
use Rattle.kernel_calls.specs.TaskCalls.ReleaseTask.{release}
use Rattle.kernel_calls.specs.TaskCalls.SetFlags.{set_flags}
use Rattle.command_lines.specs.Command.{command_of}
use Rattle.command_lines.specs.declared.commands.Command.{Command}
use Rattle.command_lines.specs.declared.commands.Command.TheVariants.{Break, ChangePriority, Delete, Examine, Finish, Hold, Map, Nothing, Release, Rename, Run, Start, Status, «Type»}
use Rattle.shell.specs.ShellListings.NumberLines.{task_number_line}
use Rattle.shell.specs.ShellListings.FileLines.{file_lines}
use Rattle.shell.specs.ShellListings.TaskLines.{task_lines}
use Rattle.shell.specs.ShellListings.BlockLine.{block_line}
use Rattle.shell.specs.ShellPrograms.StartedProgram.{Started, begun, start_program}
use Rattle.shell.specs.declared.shell_programs.programs.Priority.{Priority}
use Rattle.shell.specs.declared.shell_programs.programs.Priority.TheVariants.{AboveShell, BelowShell, Given}
use Rattle.shell.specs.Prompts.{answered, prompted, refused, with_packet_sent}
use Rattle.shell.specs.TurnParts.{ShellTurn, and_then, called, in_mode, shown, with_disc}
use Rattle.shell.specs.TypedFiles.{with_file_typed}

-- a command that is one call on the disc: the shell prompts, or tells the code
abbrev pub by_disc : {A : Type 0} → Outcome A → ShellTurn → ShellTurn
by_disc o x = answered o.answer (with_disc o.disc x)

-- a command that is one of the kernel's calls about a task: the shell prompts, or tells the code
abbrev pub by_call : CallChange → ShellTurn → ShellTurn
by_call m x = answered m.answer (called m x)

-- ---- programs

-- what is left where a program was started, or refused
abbrev pub with_started : Started → ShellTurn → ShellTurn
with_started m x = and_then m.left [] x

-- A program beside the shell gets a priority below the shell's, where none is given.
abbrev pub run_priority : Option ℕ → Priority
run_priority None = BelowShell
run_priority (Some priority) = Given priority

-- the task of the program is made ready to begin
abbrev pub with_program_begun : ℕ → ShellTurn → ShellTurn
with_program_begun id x = and_then (begun id x.store) [] x

-- the number of the new task is told, or the code of the refusal
abbrev pub after_run : Result ℕ ℕ → ShellTurn → ShellTurn
after_run (Ok id) x = prompted (shown (task_number_line id) (with_program_begun id x))
after_run (Err code) x = refused code x

-- what is left where a program beside the shell was to be started
abbrev pub by_run : Started → ShellTurn → ShellTurn
by_run m x = after_run m.answer (with_started m x)

-- a program runs beside the shell, as a task of a priority that may be given; the shell prompts at once
abbrev pub run : List ℕ → Option ℕ → ShellTurn → ShellTurn
run program priority x = by_run (start_program x.disc program (Ok tt) (run_priority priority) x.store) x

-- the type of the request that a program gets
abbrev pub program_request : ℕ
program_request = 10

-- A program whose name was typed gets the shell's packet, with which it begins, and the shell waits for it.
abbrev pub after_start : Result ℕ ℕ → ShellTurn → ShellTurn
after_start (Ok id) x = in_mode (Waiting id) (with_packet_sent id program_request x)
after_start (Err code) x = refused code x

-- what is left where a program whose name was typed was to be started
abbrev pub by_start : Started → ShellTurn → ShellTurn
by_start m x = after_start m.answer (with_started m x)

-- a program whose name was typed is started, and runs before the shell; it is refused where words follow its name
abbrev pub start : List ℕ → Result (Unit {0}) ℕ → ShellTurn → ShellTurn
start program rest x = by_start (start_program x.disc program rest AboveShell x.store) x

-- ---- all commands

-- the shell has finished the machine
abbrev pub with_finish : ShellTurn → ShellTurn
with_finish x = record x { finished = true }

-- each command, done
abbrev pub executed : Command → ShellTurn → ShellTurn
executed Nothing x = prompted x
executed («Type» name) x = with_file_typed name x
executed Examine x = prompted (shown (file_lines x.disc) x)
executed (Delete name) x = by_disc (after_delete x.disc name) x
executed (Rename from to) x = by_disc (after_rename x.disc from to) x
executed Status x = prompted (shown (task_lines x.store.lists.tasks) x)
executed Map x = prompted (shown (block_line x.store.lists.blocks) x)
executed (Hold task) x = by_call (hold x.store.lists task) x
executed (Release task) x = by_call (release x.store.lists task) x
executed (ChangePriority task priority) x = by_call (change_pri x.store.lists task priority) x
executed (Break task flags) x = by_call (set_flags x.store.lists task flags) x
executed (Run program priority) x = run program priority x
executed Finish x = with_finish x
executed (Start program rest) x = start program rest x

-- a command is done, or the code of its refusal is told
abbrev pub executed_if : Result Command ℕ → ShellTurn → ShellTurn
executed_if (Ok command) x = executed command x
executed_if (Err code) x = refused code x

-- the line that the console has handed over is a command, or is refused
abbrev pub line_executed : ShellTurn → ShellTurn
line_executed x = executed_if (command_of x.shell.line) x
