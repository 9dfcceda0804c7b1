-- The turn of the console.
use Rattle.std.specs.Prelude.{◌≡◌, ℕ, ◌==◌, ◌&&◌, true, not, if◌then◌else◌, Option, Some, None, Result, Ok, Err, List, [], ◌∷◌, ◌++◌, is_some}
use Rattle.kernel_lists.specs.PacketQueue.QueueWords.{QueuedPacket}
use Rattle.kernel_model.specs.KernelRecord.Kernel.{Console}
use Rattle.kernel_model.specs.KernelRecord.Lists.{Lists}
use Rattle.kernel_model.specs.KernelRecord.Residents.{key_packet, keyboard}
use Rattle.kernel_model.specs.KernelRecord.ValidQueues.{is_key_packet}
use Rattle.kernel_calls.specs.PacketCalls.SendOwn.{send_own}
use Rattle.kernel_calls.specs.TaskCalls.SetFlags.{set_flags}
use Rattle.resident_tasks.specs.ResidentRequests.Answers.{finished, returned}
use Rattle.resident_tasks.specs.ResidentRequests.Buffers.{bytes_in, is_readable}
use Rattle.resident_tasks.specs.ResidentRequests.Requests.{RunsResident, first_request, taken, words_taken, work}
use Rattle.resident_tasks.specs.ResidentRequests.Turns.{ResidentTurn}
use Rattle.resident_tasks.specs.declared.resident_requests.requests.Request.{Request}
use Rattle.kernel_model.specs.declared.kernel_record.numbers.TheConstants.{CONSOLE}
use Rattle.resident_tasks.specs.declared.resident_requests.requests.TheConstants.{UNKNOWN_TYPE}
use Rattle.resident_tasks.specs.declared.console_handler.requests.TheConstants.{BAD_BUFFER, READ_LINE, WRITE}
use Rattle.resident_tasks.specs.ConsoleHandler.Deliveries.{delivery}
use Rattle.resident_tasks.specs.ConsoleHandler.KeyPacket.{keys_taken}
use Rattle.resident_tasks.specs.ConsoleHandler.Line.{Keyed, key}
use Rattle.resident_tasks.specs.ConsoleHandler.TurnParts.{ConsoleTurn, and_then, begun}
use Rattle.resident_tasks.specs.ConsoleHandler.Reads.{put_off}

-- the console runs
pub record RunsConsole (l : Lists) : Type 0 where
  -- a resident runs
  pub runs : RunsResident l
  -- it is the console
  pub is : l.running ≡ CONSOLE

-- ---- a key

-- the task for which the shell waits gets the flags, where it is there
abbrev pub with_flags : ℕ → ℕ → ConsoleTurn → ConsoleTurn
with_flags id flags g = and_then g (set_flags g.lists id flags).lists [] []

-- The line becomes what the key makes of it, the echo goes out, and the task for which the shell waits gets the flags of the key.
abbrev pub with_keyed : ℕ → Keyed → ConsoleTurn → ConsoleTurn
with_keyed id k g = with_flags id k.flags (record g { console = k.console; bytes = g.bytes ++ k.echo })

-- the key packet is taken, and on no queue
abbrev pub with_keys_taken : ConsoleTurn → ConsoleTurn
with_keys_taken g = and_then g (keys_taken g.lists).lists [] (keys_taken g.lists).events

-- the key that the key packet brought
abbrev pub key_of : Result ℕ ℕ → ℕ
key_of (Ok b) = b
key_of (Err code) = 0

-- the key packet is taken, and its key is treated
abbrev pub with_key : ℕ → ConsoleTurn → ConsoleTurn
with_key id g = with_keyed id (key g.console (key_of (keys_taken g.lists).answer)) (with_keys_taken g)

-- ---- a request

-- a write's bytes go out; code 30 where its buffer may not be read
abbrev pub written_bytes : List ℕ → Request → List ℕ
written_bytes s r = if is_readable s r.first r.second then bytes_in s r.first 0 r.second else []

-- what a request other than a read gets as its answer: the number of a write's bytes, or the code of its refusal
abbrev pub answer_of : List ℕ → Request → Result ℕ ℕ
answer_of s r =
    if r.kind == WRITE
    then (if is_readable s r.first r.second then Ok r.second else Err BAD_BUFFER)
    else Err UNKNOWN_TYPE

-- the bytes that a request shows at the console: those of a write
abbrev pub bytes_of : List ℕ → Request → List ℕ
bytes_of s r = if r.kind == WRITE then written_bytes s r else []

-- a read waits; all else is answered at once
abbrev pub with_request : List ℕ → Lists → Request → ConsoleTurn → ConsoleTurn
with_request s l r g =
    if r.kind == READ_LINE
    then and_then g (put_off s l r).lists [] ((taken g.lists).events ++ (put_off s l r).events)
    else record (and_then g (returned l r (answer_of s r)).lists [] ((taken g.lists).events ++ (returned l r (answer_of s r)).events)) { bytes = g.bytes ++ bytes_of s r }

-- the request that was taken is treated, where there was one
abbrev pub with_taken : Option Request → List ℕ → Lists → ConsoleTurn → ConsoleTurn
with_taken None s l g = g
with_taken (Some r) s l g = with_request s l r g

-- the first request is taken and treated
abbrev pub with_first : ConsoleTurn → ConsoleTurn
with_first g = with_taken (first_request (words_taken g.words g.lists) (work g.lists)) (words_taken g.words g.lists) (taken g.lists).lists g

-- ---- the turn

-- the first packet is treated: as the key packet, or else as a request; without a packet nothing is done
abbrev pub treated : ℕ → List QueuedPacket → ConsoleTurn → ConsoleTurn
treated id [] g = g
treated id (p ∷ ps) g =
    if is_key_packet g.lists p
    then with_key id g
    else with_first g

-- the key packet is sent to the keyboard
abbrev pub keys_sent : ConsoleTurn → ConsoleTurn
keys_sent g =
    and_then g (send_own g.words g.lists key_packet CONSOLE keyboard).lists []
    (send_own g.words g.lists key_packet CONSOLE keyboard).events

-- the key packet is sent, unless it is on a queue, or a finished line waits
abbrev pub with_keys_sent : ConsoleTurn → ConsoleTurn
with_keys_sent g = if is_some g.lists.key && not g.console.finished then keys_sent g else g

-- the resident waits where it has no packets
abbrev pub ended : ConsoleTurn → ConsoleTurn
ended g = record g { lists = finished g.lists }

-- Its first packet is treated, a finished line is delivered, and the key packet is sent. The shell waits for the task with this
-- number, or for none.
abbrev pub all_parts : ℕ → ConsoleTurn → ConsoleTurn
all_parts id g = ended (with_keys_sent (delivery (treated id (work g.lists) g)))

-- what they leave
abbrev pub turn_done : List ℕ → ConsoleTurn → ResidentTurn
turn_done s g = record { words = s; lists = g.lists; plain = g.plain; bytes = g.bytes; events = g.events }

-- the console's turn, from what it keeps: the line, and the command of the shell
abbrev pub console_turn : ℕ → Console → List ℕ → List ℕ → Lists → ResidentTurn
console_turn id c k s l = turn_done s (all_parts id (begun s l c k))

-- ---- what holds between turns

-- the line is finished exactly where the key packet is on no queue, and then no read waits
pub record LineFits (l : Lists) (c : Console) : Type 0 where
  -- a finished line waits exactly where the key packet is on no queue
  pub finished : c.finished ≡ is_some l.key
  -- no read waits beside a finished line
  pub delivered : c.finished ≡ true → l.pending ≡ []
