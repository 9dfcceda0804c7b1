-- Where the packets are that a waiting task has sent.
use Rattle.std.specs.Prelude.{ℕ, ◌==◌, ◌||◌, Bool, if◌then◌else◌, List, [], ◌∷◌, codes, decimal, filter}
use Rattle.std.specs.List.{flat_map, list_any}
use Rattle.byte_streams.specs.Pieces.{joined}
use Rattle.kernel_model.specs.KernelRecord.Lists.{Lists, queued}
use Rattle.kernel_model.specs.KernelRecord.Task.{Task}
use Rattle.kernel_model.specs.declared.kernel_record.numbers.TheConstants.{FILE_HANDLER, REPORTER}
use Rattle.kernel_lists.specs.PacketQueue.QueueWords.{QueuedPacket}
use Rattle.state_text.specs.declared.places.Place.{Place}
use Rattle.state_text.specs.declared.places.Place.TheVariants.{Clock, Console, Keyboard, Output, Task as OfTask}

-- the packet at an address, and what is said of it
abbrev pub its_line : ℕ → List ℕ → List ℕ
its_line p text = joined (codes "  its packet " ∷ decimal p ∷ text ∷ codes "\n" ∷ [])

-- the same with a number behind
abbrev pub its_number_line : ℕ → List ℕ → ℕ → List ℕ
its_number_line p text n = joined (codes "  its packet " ∷ decimal p ∷ text ∷ decimal n ∷ codes "\n" ∷ [])

-- a packet of the task, and where it is
abbrev pub its_packet_line : Place → QueuedPacket → List ℕ
its_packet_line Clock p = its_number_line p.address (codes " is at the clock, due at tick ") p.last
its_packet_line Keyboard p = its_line p.address (codes " is at the keyboard")
its_packet_line Output p = its_line p.address (codes " is at the output")
its_packet_line Console p = its_line p.address (codes " waits for a line at the console")
its_packet_line (OfTask id) p = its_number_line p.address (codes " is on the queue of task ") id

-- whether the task with the number has sent the packet
abbrev pub is_from : ℕ → QueuedPacket → Bool
is_from id p = p.sender == id

-- those of the packets that it has sent
abbrev pub from_sender : ℕ → List QueuedPacket → List QueuedPacket
from_sender id ps = filter (is_from id) ps

-- a line for each of its packets on a queue
abbrev pub its_lines : ℕ → Place → List QueuedPacket → List ℕ
its_lines id at ps = flat_map (its_packet_line at) (from_sender id ps)

-- its packets on the queue of a task
abbrev pub its_lines_at_task : ℕ → Task → List ℕ
its_lines_at_task id t = its_lines id (OfTask t.id) t.queue

-- whether the number is that of a resident which serves the requests of others: the reporter of faults, or the file handler
abbrev pub serves_requests : ℕ → Bool
serves_requests id = (id == REPORTER) || (id == FILE_HANDLER)

-- that a task waits of which no packet is queued
abbrev pub alone_line : ℕ → List ℕ
alone_line id = if serves_requests id then codes "  it waits for requests\n" else codes "  no packet of it is on a queue\n"

-- that line, where no packet of it is queued
abbrev pub none_line : ℕ → Lists → List ℕ
none_line id l = if list_any (is_from id) (queued l) then [] else alone_line id

-- all its packets on queues: at the devices, at the console, and at the tasks in the order of the chain
unfoldable pub awaited_lines : ℕ → Lists → List ℕ
awaited_lines id l =
    joined (its_lines id Clock l.clock ∷ its_lines id Keyboard l.keyboard ∷ its_lines id Output l.output ∷ its_lines id Console l.pending
    ∷ flat_map (its_lines_at_task id) l.tasks ∷ none_line id l ∷ [])
