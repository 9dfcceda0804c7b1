-- Packets come into queues, and go out of them.
use Rattle.std.specs.Prelude.{ℕ, ◌+◌, ◌==◌, Bool, List, [], ◌∷◌, ◌++◌, nat_le, slice_index}
use Rattle.std.specs.List.{list_any}
use Rattle.kernel_lists.specs.LinkedList.Places.{insert_after, without_first}
use Rattle.kernel_lists.specs.PacketQueue.QueueWords.{QueuedPacket}
use Rattle.kernel_model.specs.KernelRecord.Changes.{queue_of, with_queue}
use Rattle.kernel_model.specs.KernelRecord.Lists.{Lists}
use Rattle.kernel_model.specs.KernelRecord.ValidQueues.{Place}
use Rattle.kernel_model.specs.KernelRecord.ValidQueues.Place.{Clock}
use Rattle.kernel_calls.specs.PacketCalls.QueueWords.{due_tick}

-- the packet at p, as its words say
abbrev pub packet_at : List ℕ → ℕ → QueuedPacket
packet_at s p =
    record { address = p; sender = slice_index s (p + 1); kind = slice_index s (p + 2); res1 = slice_index s (p + 3); last = slice_index s (p + 4) }

-- ---- a packet comes

-- the queue once a packet has come to it: at the clock after all that are due no later, and elsewhere at the end
abbrev pub arrived : Place → QueuedPacket → List QueuedPacket → List QueuedPacket
arrived Clock p ps = insert_after (λ q. nat_le q.last p.last) p ps
arrived _ p ps = ps ++ p ∷ []

-- the lists once a packet has come to the queue at a place
abbrev pub with_arrived : Place → QueuedPacket → Lists → Lists
with_arrived at p l = with_queue at (arrived at p (queue_of at l)) l

-- word 4 of a packet that is sent to a place: at the clock the tick at which it is due, which is as many ticks from now on as its
-- word 5 says, and elsewhere the word that was there
abbrev pub sent_last : List ℕ → Lists → ℕ → Place → ℕ
sent_last s l p Clock = due_tick l.tick (slice_index s (p + 5))
sent_last s l p _ = slice_index s (p + 4)

-- a packet that is sent to a place: its word 1 has its sender
abbrev pub sent_packet : List ℕ → Lists → Place → ℕ → ℕ → QueuedPacket
sent_packet s l at p sender = record (packet_at s p) { sender = sender; last = sent_last s l p at }

-- ---- a packet goes

-- whether the packet at p is on the queue
abbrev pub is_on_queue : ℕ → List QueuedPacket → Bool
is_on_queue p ps = list_any (λ q. p == q.address) ps

-- the queue without the packet at p
abbrev pub departed : ℕ → List QueuedPacket → List QueuedPacket
departed p ps = without_first (λ q. p == q.address) ps

-- the lists once the packet at p has gone out of the queue at a place
abbrev pub with_departed : ℕ → Place → Lists → Lists
with_departed p at l = with_queue at (departed p (queue_of at l)) l
