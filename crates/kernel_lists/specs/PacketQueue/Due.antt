-- Queues of packets that are due at a tick.
use Rattle.std.specs.Prelude.{ℕ, ◌+◌, Bool, nat_le, ◌==◌, List, filter, slice_index, slice_set}
use Rattle.kernel_lists.specs.LinkedList.Places.{cell_after, linked_in}
use Rattle.kernel_lists.specs.PacketQueue.Queue.{link_of, queue_at}

-- the word that has the due tick of a packet
abbrev pub due_word : ℕ → ℕ
due_word p = p + 4

-- the tick at which the packet at p is due
abbrev pub due_of : List ℕ → ℕ → ℕ
due_of s p = slice_index s (due_word p)

-- whether the packet is due at that tick or before
abbrev pub is_due : List ℕ → ℕ → ℕ → Bool
is_due s tick p = nat_le (due_of s p) tick

-- the packets of a queue with this due tick, in their order
abbrev pub due_at : List ℕ → ℕ → ℕ → List ℕ
due_at s head tick = filter (λ p. due_of s p == tick) (queue_at s head)

-- the word that holds the link of the last packet that is due at that tick or before: the head, where none is
abbrev pub last_due_link : List ℕ → ℕ → ℕ → ℕ
last_due_link s head tick = cell_after (is_due s tick) link_of head (queue_at s head)

-- the store in which the packet, due at this tick, comes directly after the last one that is due no later
abbrev pub with_due : List ℕ → ℕ → ℕ → ℕ → List ℕ
with_due s head p due = slice_set (linked_in s link_of (last_due_link s head due) p) (due_word p) due
