-- The packets of a queue in words.
use Rattle.std.specs.Prelude.{ℕ, ◌==◌, if◌then◌else◌, List, [], ◌∷◌, codes, decimal}
use Rattle.std.specs.List.{flat_map}
use Rattle.byte_streams.specs.Pieces.{joined}
use Rattle.kernel_model.specs.KernelRecord.Lists.{Lists}
use Rattle.kernel_model.specs.declared.kernel_record.numbers.TheConstants.{CLOCK, KEYBOARD, OUTPUT}
use Rattle.kernel_lists.specs.PacketQueue.QueueWords.{QueuedPacket}
use Rattle.state_text.specs.declared.places.Place.{Place}
use Rattle.state_text.specs.declared.places.Place.TheVariants.{Clock, Console, Keyboard, Output, Task}

-- who has a number: a device, or a task
abbrev pub name_of : ℕ → List ℕ
name_of id =
    if id == CLOCK then codes "the clock" else
    if id == KEYBOARD then codes "the keyboard" else
    if id == OUTPUT then codes "the output" else
    joined (codes "task " ∷ decimal id ∷ [])

-- the queue of a place; that of a task is in the lines of that task
abbrev pub queue_name : Place → List ℕ
queue_name Clock = codes "the clock"
queue_name Keyboard = codes "the keyboard"
queue_name Output = codes "the output"
queue_name Console = codes "the reads at the console"
queue_name (Task id) = codes "  on its queue"

-- a packet's type, and the tick at which it is due if it is at the clock
abbrev pub packet_end : Place → QueuedPacket → List ℕ
packet_end Clock p = joined (codes ", type " ∷ decimal p.kind ∷ codes ", due at tick " ∷ decimal p.last ∷ codes "\n" ∷ [])
packet_end Keyboard p = joined (codes ", type " ∷ decimal p.kind ∷ codes "\n" ∷ [])
packet_end Output p = joined (codes ", type " ∷ decimal p.kind ∷ codes "\n" ∷ [])
packet_end Console p = joined (codes ", type " ∷ decimal p.kind ∷ codes "\n" ∷ [])
packet_end (Task id) p = joined (codes ", type " ∷ decimal p.kind ∷ codes "\n" ∷ [])

-- a packet's queue and its address
abbrev pub packet_front : Place → QueuedPacket → List ℕ
packet_front at p = joined (queue_name at ∷ codes ": packet " ∷ decimal p.address ∷ codes " of " ∷ [])

-- a packet that is queued there: its queue, its address, its sender, and its type
abbrev pub packet_line : Place → QueuedPacket → List ℕ
packet_line at p = joined (packet_front at p ∷ name_of p.sender ∷ packet_end at p ∷ [])

-- a line for each packet of a queue, in order
abbrev pub packet_lines : Place → List QueuedPacket → List ℕ
packet_lines at ps = flat_map (packet_line at) ps

-- the queues of the devices, and the reads that wait for a line
unfoldable pub queues_text : Lists → List ℕ
queues_text l =
    joined (codes "queues\n" ∷ packet_lines Clock l.clock ∷ packet_lines Keyboard l.keyboard ∷ packet_lines Output l.output
    ∷ packet_lines Console l.pending ∷ [])
