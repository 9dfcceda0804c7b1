-- What is between the two machines of a ring, and what a round does to it.
use Rattle.std.specs.Prelude.{ℕ, ◌+◌, ◌%◌, if◌then◌else◌, Bool, false, Option, Some, None, List, [], ◌∷◌, length, slice_index}
use Rattle.machine_ring.specs.RingLink.Receivers.{count_after, is_taken}
use Rattle.machine_ring.specs.RingLink.Senders.{Sender, is_new_count, new_sender, sender_after_count, sender_after_turn, sent_in_turn}
use Rattle.machine_ring.specs.Flights.{coming, staying, with_any_packet, with_packet}
use Rattle.machine_ring.specs.declared.terms.Terms.{Terms}

-- the link, with its two ends
pub record Link : Type 0 where
  -- what is set for the ring
  pub terms : Terms
  -- the end that sends
  pub sender : Sender
  -- the data in flight, each byte after its number, the oldest first
  pub packets : List (ℕ × ℕ)
  -- how many bytes the other end took
  pub received : ℕ
  -- the acknowledgements in flight, the oldest first
  pub counts : List ℕ
  -- the rounds so far
  pub rounds : ℕ

-- nothing was sent
abbrev pub new_link : Terms → Link
new_link terms = record { terms = terms; sender = new_sender; packets = []; received = 0; counts = []; rounds = 0 }

-- the letter of the round after so many: the letters are used one after another, and then again from the first
abbrev pub letter_after : ℕ → List ℕ → ℕ
letter_after rounds letters = slice_index letters (rounds % length letters)

-- ---- the turn of the sender

-- the link after a turn of the sender, where this byte waits first, if one waits
abbrev pub after_turn : Option ℕ → Link → Link
after_turn first k = record k {
  sender = sender_after_turn k.sender first k.terms.wait;
  packets = with_any_packet (sent_in_turn k.sender first k.terms.wait) k.packets;
}

-- ---- data comes

-- the data that comes out of the link in this round, as the letter of the round says
abbrev pub coming_data : Link → Option (ℕ × ℕ)
coming_data k = coming (letter_after k.rounds k.terms.link) k.packets

-- the data that is left on the way then
abbrev pub staying_data : Link → List (ℕ × ℕ)
staying_data k = staying (letter_after k.rounds k.terms.link) k.packets

-- how many bytes are taken then: one more where data comes that is next, and there is room
abbrev pub received_after : ℕ → Bool → Option (ℕ × ℕ) → ℕ
received_after received room None = received
received_after received room (Some numbered) = count_after received numbered.0 room

-- the byte that is taken, if one is
abbrev pub byte_taken : ℕ → Bool → Option (ℕ × ℕ) → Option ℕ
byte_taken received room None = None
byte_taken received room (Some numbered) = if is_taken received numbered.0 room then Some numbered.1 else None

-- whatever data comes, the count of all bytes received is sent back
abbrev pub counts_after : ℕ → Bool → Option (ℕ × ℕ) → List ℕ → List ℕ
counts_after received room None counts = counts
counts_after received room (Some numbered) counts = with_packet (count_after received numbered.0 room) counts

-- the link once data has come, where the right machine has room for a byte, or has none
abbrev pub after_data : Bool → Link → Link
after_data room k = record k {
  packets = staying_data k;
  received = received_after k.received room (coming_data k);
  counts = counts_after k.received room (coming_data k) k.counts;
}

-- ---- an acknowledgement comes

-- the acknowledged count that comes back in this round, as the letter of the round says
abbrev pub coming_count : Link → Option ℕ
coming_count k = coming (letter_after k.rounds k.terms.acks) k.counts

-- the counts that are left on the way then
abbrev pub staying_counts : Link → List ℕ
staying_counts k = staying (letter_after k.rounds k.terms.acks) k.counts

-- the sender once a count has come, where one has
abbrev pub sender_after_answer : Option ℕ → Sender → Sender
sender_after_answer None s = s
sender_after_answer (Some count) s = sender_after_count s count

-- whether a count that has come acknowledges more than those before it
abbrev pub is_new : Option ℕ → Sender → Bool
is_new None s = false
is_new (Some count) s = is_new_count s count

-- the link once a count has come back, where one has
abbrev pub after_count : Link → Link
after_count k = record k { sender = sender_after_answer (coming_count k) k.sender; counts = staying_counts k }

-- ---- a round of the link

-- the link after it, by the first byte that waits and whether there is room
abbrev pub carried : Option ℕ → Bool → Link → Link
carried first room k = (let left = after_count (after_data room (after_turn first k)) in record left { rounds = left.rounds + 1 })

-- the byte that is taken in it, if one is
abbrev pub carried_byte : Option ℕ → Bool → Link → Option ℕ
carried_byte first room k = byte_taken k.received room (coming_data (after_turn first k))

-- the byte that is taken, if one is, as a list
abbrev pub listed : Option ℕ → List ℕ
listed None = []
listed (Some byte) = byte ∷ []

-- whether the first byte that waits is acknowledged in it
abbrev pub carries_back : Option ℕ → Bool → Link → Bool
carries_back first room k =
    is_new (coming_count (after_data room (after_turn first k))) (after_data room (after_turn first k)).sender
