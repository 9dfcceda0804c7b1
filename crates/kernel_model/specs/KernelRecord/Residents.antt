-- The words of the resident block that are no task's: the console's pending reads, its key packet, and the fault packet.
use Rattle.std.specs.Prelude.{ℕ, ◌-◌, ◌^◌, Bool, if◌then◌else◌, Option, Some, None, [], ◌∷◌, ◌++◌}
use Rattle.kernel_lists.specs.OwnedWords.Owned.{Pairs, row_from}
use Rattle.kernel_lists.specs.PacketQueue.Queue.{no_queue}
use Rattle.kernel_lists.specs.PacketQueue.QueueWords.{queue_words}
use Rattle.kernel_model.specs.KernelRecord.Lists.{Lists}

-- the head of the queue of reads that wait for a line
abbrev pub pending_head : ℕ
pending_head = 270

-- the address of the console's key packet, which has eight words: the last three are its arguments
abbrev pub key_packet : ℕ
key_packet = 271

-- the address of the packet of the task that reports faults, which has five words
abbrev pub fault_packet : ℕ
fault_packet = 310

-- the number of a device, as a word
abbrev pub device : ℕ → ℕ
device n = 2 ^ 32 - n

-- the keyboard is device -2
abbrev pub keyboard : ℕ
keyboard = device 2

-- the key packet's first five words, which are the kernel's while it is on no queue
abbrev pub key_words : Option ℕ → Pairs
key_words None = []
key_words (Some res1) = row_from key_packet 0 (no_queue ∷ keyboard ∷ 0 ∷ res1 ∷ 0 ∷ [])

-- the arguments of the key packet, which are the kernel's at any time, and 0
abbrev pub key_arguments : Pairs
key_arguments = row_from key_packet 5 (0 ∷ 0 ∷ 0 ∷ [])

-- the words of the fault packet, which are the kernel's while it is on no queue
abbrev pub fault_packet_words : Bool → Pairs
fault_packet_words free = if free then row_from fault_packet 0 (no_queue ∷ 0 ∷ 0 ∷ 0 ∷ 0 ∷ []) else []

-- all that residents own besides their task blocks; without residents nothing
abbrev pub resident_words : Lists → Pairs
resident_words l =
    if l.residents
    then queue_words pending_head l.pending ++ (key_words l.key ++ (key_arguments ++ fault_packet_words l.fault_packet_free))
    else []
