-- Queues of packets. A packet is five words: its link, its sender, its type and two results. The first packet's address is
-- in the head, each next one's in a link.
use Rattle.std.specs.Prelude.{ℕ, ◌-◌, ◌^◌, List, slice_set}
use Rattle.kernel_lists.specs.LinkedList.Chain.{last_cell, list_at}
use Rattle.kernel_lists.specs.LinkedList.Linked.{HasList, IsFresh}
use Rattle.kernel_lists.specs.LinkedList.Places.{without_node}

-- a packet's link is its word 0
abbrev pub link_of : ℕ → ℕ
link_of p = p

-- the number of its words
abbrev pub packet_size : ℕ → ℕ
packet_size p = 5

-- the packets that are queued at the head, in order
abbrev pub queue_at : List ℕ → ℕ → List ℕ
queue_at s head = list_at s link_of head

-- there is a queue at the head: its packets lie in the store, none at 0, and their words meet neither the head nor one another
abbrev pub HasQueue : List ℕ → ℕ → Type 0
HasQueue s head = HasList s link_of packet_size head

-- the packet may come into that queue: it lies in the store, not at 0, and its words meet neither the head nor the queue
abbrev pub CanQueue : List ℕ → ℕ → ℕ → Type 0
CanQueue s head p = IsFresh s link_of packet_size head (queue_at s head) p

-- the word that holds the last link: the last packet's, or the head
abbrev pub last_link : List ℕ → ℕ → ℕ
last_link s head = last_cell link_of head (queue_at s head)

-- the store in which the packet has come to the end
abbrev pub appended : List ℕ → ℕ → ℕ → List ℕ
appended s head p = slice_set (slice_set s (link_of p) 0) (last_link s head) p

-- the link of a packet that is in no queue: all its bits are set
abbrev pub no_queue : ℕ
no_queue = 2 ^ 32 - 1

-- the store in which the packet has gone out of the queue: it is linked out, and its link says so
abbrev pub unlinked : List ℕ → ℕ → ℕ → List ℕ
unlinked s head p = slice_set (without_node s link_of head p) (link_of p) no_queue
