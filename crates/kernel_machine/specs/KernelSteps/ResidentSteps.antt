-- The turns of the residents.
use Rattle.std.specs.Prelude.{ℕ, ◌==◌, ◌&&◌, Bool, false, if◌then◌else◌, Option, Some, List, [], ◌∷◌, nat_le}
use Rattle.kernel_lists.specs.OwnedWords.Owned.{written}
use Rattle.kernel_lists.specs.PacketQueue.QueueWords.{QueuedPacket}
use Rattle.ram_disc.specs.Disc.{Disc}
use Rattle.kernel_model.specs.KernelRecord.Image.{image}
use Rattle.kernel_model.specs.KernelRecord.Kernel.{Kernel, Pipe}
use Rattle.kernel_model.specs.declared.kernel_record.stops.Stop.TheVariants.{Finish}
use Rattle.kernel_model.specs.KernelRecord.Lists.{Lists}
use Rattle.resident_tasks.specs.ResidentRequests.Requests.{work}
use Rattle.resident_tasks.specs.ResidentRequests.Turns.{ResidentTurn}
use Rattle.resident_tasks.specs.FaultReporter.FaultTurns.{fault_turn}
use Rattle.resident_tasks.specs.ConsoleHandler.ConsoleTurn.{all_parts, turn_done}
use Rattle.resident_tasks.specs.ConsoleHandler.TurnParts.{ConsoleTurn, begun}
use Rattle.resident_tasks.specs.FileHandler.FileTurn.{disc_after_turn, file_turn}
use Rattle.resident_tasks.specs.PipeHandler.PipeTurns.{pipe_turn, pipes_after_turn}
use Rattle.shell.specs.Modes.{awaited}
use Rattle.shell.specs.ShellTurn.{shell_turn}
use Rattle.shell.specs.TurnParts.{ShellTurn}
use Rattle.kernel_machine.specs.KernelSteps.Stepped.{Stepped, quietly, with_store}

-- the kernel once a resident's turn has left this in the store
abbrev pub after_resident : ResidentTurn → Kernel → Stepped
after_resident m k = record { kernel = with_store (written m.plain m.words) m.lists k; bytes = m.bytes; events = m.events }

-- ---- the shell

-- at the command that finishes the machine it stops
abbrev pub after_shell : ShellTurn → Kernel → Stepped
after_shell x k = record {
  kernel = record (with_store x.store.words x.store.lists k) { shell = x.shell; disc = x.disc; stop = if x.finished then Some Finish else k.stop };
  bytes = x.bytes;
  events = x.events;
}

-- a step's turn, where the shell runs
abbrev pub shell_step : Kernel → Stepped
shell_step k = after_shell (shell_turn (image k) k.lists k.shell k.disc) k

-- ---- the task that reports faults

-- a step's turn, where the task runs that reports faults
abbrev pub reporter_step : Kernel → Stepped
reporter_step k = after_resident (fault_turn (image k) k.lists) k

-- ---- the console

-- what the console does in its turn, and how far it comes; the shell's wait says whose flags its keys set
abbrev pub console_parts : Kernel → ConsoleTurn
console_parts k = all_parts (awaited k.shell.mode) (begun (image k) k.lists k.console k.shell.line)

-- the machine with the console's line, and with the line that it hands to the shell
abbrev pub with_console_lines : ConsoleTurn → Kernel → Kernel
with_console_lines g k = record k { console = g.console; shell = record k.shell { line = g.command } }

-- a step's turn, where the console runs
abbrev pub console_step : Kernel → Stepped
console_step k = after_resident (turn_done (image k) (console_parts k)) (with_console_lines (console_parts k) k)

-- ---- the file handler

-- the machine with another disc
abbrev pub with_disc : Disc → Kernel → Kernel
with_disc d k = record k { disc = d }

-- the machine with other pipes
abbrev pub with_pipes : List (Option Pipe) → Kernel → Kernel
with_pipes ps k = record k { pipes = ps }

-- a step's turn, where the file handler runs, and its request is for a file
abbrev pub file_step : Kernel → Stepped
file_step k = after_resident (file_turn k.disc (image k) k.lists) (with_disc (disc_after_turn k.disc (image k) k.lists) k)

-- a step's turn, where the file handler runs, and its request is for a pipe
abbrev pub pipe_step : Kernel → Stepped
pipe_step k = after_resident (pipe_turn k.pipes (image k) k.lists) (with_pipes (pipes_after_turn k.pipes (image k) k.lists) k)

-- the first packet is a request for a pipe
abbrev pub is_for_pipes : List QueuedPacket → Bool
is_for_pipes [] = false
is_for_pipes (p ∷ ps) = nat_le 20 p.kind && nat_le p.kind 23

-- in version 2 requests for pipes come to the file handler
abbrev pub serves_pipes : Lists → Bool
serves_pipes l = (l.version == 2) && is_for_pipes (work l)

-- a step's turn, where the file handler runs
abbrev pub handler_step : Kernel → Stepped
handler_step k = if serves_pipes k.lists then pipe_step k else file_step k

-- ---- all of them

-- the turn of the resident with this number
abbrev pub resident_step : ℕ → Kernel → Stepped
resident_step id k =
    if id == 1 then shell_step k else
    if id == 2 then reporter_step k else
    if id == 3 then console_step k else
    if id == 4 then handler_step k else
    quietly k
