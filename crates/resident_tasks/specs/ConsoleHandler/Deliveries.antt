-- A finished line is handed to the reads that wait.
use Rattle.std.specs.Prelude.{ℕ, ◌==◌, ◌&&◌, Bool, true, false, if◌then◌else◌, Option, Some, None, Result, Ok, Err, List, [], ◌∷◌, ◌++◌, length, min, take}
use Rattle.kernel_lists.specs.PacketQueue.QueueWords.{QueuedPacket}
use Rattle.kernel_model.specs.KernelRecord.Kernel.{Console, no_line}
use Rattle.kernel_model.specs.KernelRecord.Lists.{Lists}
use Rattle.resident_tasks.specs.ResidentRequests.Answers.{returned}
use Rattle.resident_tasks.specs.ResidentRequests.Buffers.{is_writable, written_buffer}
use Rattle.resident_tasks.specs.ResidentRequests.Requests.{first_request}
use Rattle.resident_tasks.specs.ResidentRequests.Turns.{Served, service}
use Rattle.resident_tasks.specs.declared.resident_requests.requests.Request.{Request}
use Rattle.kernel_model.specs.declared.kernel_record.numbers.TheConstants.{SHELL}
use Rattle.resident_tasks.specs.declared.console_handler.requests.TheConstants.{BAD_BUFFER}
use Rattle.resident_tasks.specs.ConsoleHandler.TurnParts.{ConsoleTurn, and_then}
use Rattle.resident_tasks.specs.ConsoleHandler.Reads.{read_taken, words_read_from}

-- how many bytes of the line a read gets
abbrev pub given : List ℕ → Request → ℕ
given line r = min r.second (length line)

-- What the read gets, in these words and lists: the shell gets the length of the line, and another task the first bytes of it in its
-- buffer, and their number; code 30 where the whole buffer may not be written.
abbrev pub line_service : List ℕ → Lists → List ℕ → Request → Served
line_service s l line r =
    if r.sender == SHELL then service (Ok (length line)) r.first []
    else if is_writable s l r.packet r.first r.second then service (Ok (given line r)) r.first (take (given line r) line)
    else service (Err BAD_BUFFER) r.first []

-- a line that was delivered is emptied
abbrev pub line_after : Result ℕ ℕ → Console → Console
line_after (Ok n) c = no_line
line_after (Err code) c = c

-- the line goes to the shell where the shell reads
abbrev pub command_after : Request → List ℕ → List ℕ → List ℕ
command_after r line command = if r.sender == SHELL then line else command

-- the read, which was taken, gets this, and is returned
abbrev pub with_served : List ℕ → Lists → Request → Served → ConsoleTurn → ConsoleTurn
with_served s l r w g = record (and_then g (returned l r w.answer).lists (written_buffer s w.at w.bytes) ((read_taken g.lists).events ++ (returned l r w.answer).events)) {
  console = line_after w.answer g.console;
  command = command_after r g.console.line g.command;
}

-- the first read gets the line, where there was a read
abbrev pub with_read : Option Request → List ℕ → Lists → ConsoleTurn → ConsoleTurn
with_read None s l g = g
with_read (Some r) s l g = with_served s l r (line_service s l g.console.line r) g

-- the first read that waits gets it
abbrev pub handed : ConsoleTurn → ConsoleTurn
handed g =
    with_read (first_request (words_read_from g.lists.pending g.words) g.lists.pending) (words_read_from g.lists.pending g.words) (read_taken g.lists).lists g

-- One after the other gets it, until it is delivered.
abbrev pub delivered : List QueuedPacket → ConsoleTurn → ConsoleTurn
delivered [] g = g
delivered (p ∷ ps) g = if g.console.finished then delivered ps (handed g) else g

-- the first read gets the line, where that is finished
abbrev pub handed_if_finished : ConsoleTurn → ConsoleTurn
handed_if_finished g = if g.console.finished then handed g else g

-- whether a read waits
abbrev pub has_reads : List QueuedPacket → Bool
has_reads [] = false
has_reads (p ∷ ps) = true

-- whether a line is finished and a read waits
abbrev pub is_handed : ConsoleTurn → Bool
is_handed g = g.console.finished && has_reads g.lists.pending

-- the line is handed to one read after the other, in the order in which they came, until one has taken it
abbrev pub delivery : ConsoleTurn → ConsoleTurn
delivery g = delivered g.lists.pending g
