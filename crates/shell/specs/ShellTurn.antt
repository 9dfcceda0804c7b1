-- The turn of the shell.
use Rattle.std.specs.Prelude.{◌≡◌, ℕ, ◌+◌, ◌==◌, if◌then◌else◌, is_some, Option, Some, None, Err, List, [], ◌∷◌, slice_index}
use Rattle.kernel_lists.specs.PacketQueue.QueueWords.{QueuedPacket}
use Rattle.kernel_model.specs.KernelRecord.Between.{is_typing}
use Rattle.kernel_model.specs.KernelRecord.Kernel.{Mode, Shell}
use Rattle.kernel_model.specs.KernelRecord.Kernel.Mode.{Prompt, Reading, Typing, Waiting}
use Rattle.kernel_model.specs.KernelRecord.Lists.{Lists}
use Rattle.ram_disc.specs.Disc.{Disc, IsDisc, shell_stream, stream_at}
use Rattle.resident_tasks.specs.ResidentRequests.Answers.{finished, returned}
use Rattle.resident_tasks.specs.ResidentRequests.Requests.{RunsResident, first_request, taken, work}
use Rattle.resident_tasks.specs.declared.resident_requests.requests.Request.{Request}
use Rattle.kernel_model.specs.KernelRecord.StoreWithLists.{left_with}
use Rattle.shell.specs.ShellListings.NumberLines.{return_code_line}
use Rattle.shell.specs.ShellPrograms.ClearedTasks.{cleared}
use Rattle.kernel_model.specs.declared.kernel_record.numbers.TheConstants.{CONSOLE, RES1, SHELL, SHELL_PACKET}
use Rattle.resident_tasks.specs.declared.resident_requests.requests.TheConstants.{UNKNOWN_TYPE}
use Rattle.shell.specs.Commands.{line_executed}
use Rattle.shell.specs.Prompts.{prompted}
use Rattle.shell.specs.TurnParts.{ShellTurn, and_then, begun, called, shown}
use Rattle.shell.specs.TypedFiles.{typed}

-- ---- its own packet, by its mode

-- where the packet comes from the console the line is executed; else it counts as an empty one
abbrev pub line_read : Request → ShellTurn → ShellTurn
line_read r x = if r.sender == CONSOLE then line_executed x else prompted x

-- what a program gives back: the first result of the shell's packet
abbrev pub result_of : ShellTurn → ℕ
result_of x = slice_index x.store.words (SHELL_PACKET + RES1)

-- the line that tells it; 0 is not told
abbrev pub return_code : ℕ → List ℕ
return_code result = if result == 0 then [] else return_code_line result

-- the program for which the shell waited has ended: its result is told, and the shell prompts
abbrev pub program_ended : ShellTurn → ShellTurn
program_ended x = prompted (shown (return_code (result_of x)) x)

-- what the shell does when its own packet comes, in each of its modes
abbrev pub treated_in : Mode → Request → ShellTurn → ShellTurn
treated_in Prompt r x = prompted x
treated_in Reading r x = line_read r x
treated_in (Waiting id) r x = program_ended x
treated_in Typing r x = typed x

-- ---- a packet

-- every other packet is returned, refused
abbrev pub returned_unknown : Request → ShellTurn → ShellTurn
returned_unknown r x = called (returned x.store.lists r (Err UNKNOWN_TYPE)) x

-- the shell's own packet goes by the mode; any other one is returned, refused
abbrev pub treated : Option Request → ShellTurn → ShellTurn
treated None x = x
treated (Some r) x = if r.packet == SHELL_PACKET then treated_in x.shell.mode r x else returned_unknown r x

-- the first packet is taken
abbrev pub packet_taken : ShellTurn → ShellTurn
packet_taken x = and_then (left_with x.store.words (taken x.store.lists).lists (taken x.store.lists).plain) (taken x.store.lists).events x

-- the request of the first packet, in the words that taking it leaves
abbrev pub request_of : ShellTurn → Option Request
request_of x = first_request (packet_taken x).store.words (work x.store.lists)

-- the first packet is taken and treated
abbrev pub first_treated : ShellTurn → ShellTurn
first_treated x = treated (request_of x) (packet_taken x)

-- ---- the turn

-- the tasks of the shell that are dead go, with their modules
abbrev pub with_cleared : ShellTurn → ShellTurn
with_cleared x = and_then (cleared x.store) [] x

-- where it has a packet the shell clears up, and then takes the first
abbrev pub all_parts : List QueuedPacket → ShellTurn → ShellTurn
all_parts [] x = x
all_parts (p ∷ ps) x = first_treated (with_cleared x)

-- the shell waits where it has no packets, and still runs where it has some; at the command that finishes the machine nothing
-- more is done
abbrev pub ended : ShellTurn → ShellTurn
ended x = if x.finished then x else and_then (left_with x.store.words (finished x.store.lists) []) [] x

-- the turn of the shell, in these words and lists, from what it keeps and the disc
unfoldable pub shell_turn : List ℕ → Lists → Shell → Disc → ShellTurn
shell_turn words l sh d = ended (all_parts (work l) (begun words l sh d))

-- ---- what it asks

-- The shell runs, its stream is open exactly while it types a file, and the disc is one.
pub record RunsShell (l : Lists) (sh : Shell) (d : Disc) : Type 0 where
  -- a resident runs
  pub runs : RunsResident l
  -- it is the shell
  pub is : l.running ≡ SHELL
  -- the shell's stream is open exactly while it types a file
  pub typing : is_some (stream_at d shell_stream) ≡ is_typing sh.mode
  -- the disc is sound
  pub disc : IsDisc d
