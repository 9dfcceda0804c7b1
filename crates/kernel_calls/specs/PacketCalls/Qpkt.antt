-- The call that sends a packet.
use Rattle.std.specs.Prelude.{ℕ, ◌+◌, ◌==◌, ◌&&◌, Bool, false, not, Ok, List, [], ◌∷◌, ◌++◌, nat_lt, slice_index}
use Rattle.std.specs.List.{list_any, range_with_len}
use Rattle.std.specs.Option.{option_map_or}
use Rattle.word_store.specs.Arithmetic.{signed}
use Rattle.kernel_lists.specs.OwnedWords.Owned.{owners}
use Rattle.kernel_lists.specs.GetvecChain.Block.{has_data}
use Rattle.kernel_lists.specs.GetvecChain.Tiling.{holding}
use Rattle.kernel_lists.specs.PacketQueue.Queue.{no_queue}
use Rattle.kernel_lists.specs.declared.packet_queue.events.KernelEvent.TheVariants.{Accepted}
use Rattle.kernel_model.specs.KernelRecord.Lists.{Lists}
use Rattle.kernel_model.specs.KernelRecord.Owned.{owned}
use Rattle.kernel_calls.specs.CallAnswers.CallChange.{CallChange, minus_one, unless_refused}
use Rattle.kernel_calls.specs.PacketCalls.Destinations.{is_destination, place_of}
use Rattle.kernel_calls.specs.PacketCalls.PacketMoves.{sent_packet, with_arrived}

-- the words p to p + 4 are all data of one used block
abbrev pub is_lodged : Lists → ℕ → Bool
is_lodged l p = option_map_or (λ b. not b.free && has_data b (p + 4)) (holding p l.blocks) false

-- none of them is owned
abbrev pub is_plain : Lists → ℕ → Bool
is_plain l p = not (list_any (λ a. nat_lt 0 (owners a (owned l))) (range_with_len p 5))

-- The packet may come into a queue: its words are data of one used block (code 5), its link says that it is on none (code 3), and
-- its words are plain (code 5).
abbrev pub packet_tests : List ℕ → Lists → ℕ → List (Bool × ℕ)
packet_tests s l p = (is_lodged l p, 5) ∷ (slice_index s p == no_queue, 3) ∷ (is_plain l p, 5) ∷ []

-- And its word 1 names a task that is there, or a device (code 4).
abbrev pub qpkt_tests : List ℕ → Lists → ℕ → List (Bool × ℕ)
qpkt_tests s l p = packet_tests s l p ++ (is_destination l (slice_index s (p + 1)), 4) ∷ []

-- The packet comes into the queue that its word 1 names, from the task that calls.
abbrev pub sent_to : ℕ → List ℕ → Lists → ℕ → CallChange
sent_to number s l p = record {
  answer = Ok minus_one;
  lists = with_arrived (place_of number) (sent_packet s l (place_of number) p l.running) l;
  plain = [];
  events = Accepted (signed number) p (signed l.running) ∷ [];
}

-- The packet at p goes to the queue that its word 1 names, from the running task, unless it is refused.
abbrev pub qpkt : List ℕ → Lists → ℕ → CallChange
qpkt s l p = unless_refused (qpkt_tests s l p) l (sent_to (slice_index s (p + 1)) s l p)
