-- The words of queued packets, as pairs of an address and the word that is there.
use Rattle.std.specs.Prelude.{◌≡◌, ◌<◌, ℕ, List, [], ◌∷◌, ◌++◌, nat_le}
use Rattle.std.specs.List.{AllByRecursion}
use Rattle.kernel_lists.specs.LinkedList.Chain.{last_cell}
use Rattle.kernel_lists.specs.LinkedList.Places.{insert_after}
use Rattle.kernel_lists.specs.OwnedWords.Owned.{AreApart, AreInside, Holds, Pairs, row_from, written}
use Rattle.kernel_lists.specs.OwnedWords.Exchange.{Exchange}
use Rattle.kernel_lists.specs.OwnedWords.LinkedWords.{AreHeld, first_of, headed_words}
use Rattle.kernel_lists.specs.PacketQueue.Due.{due_word}
use Rattle.kernel_lists.specs.PacketQueue.Queue.{no_queue}

-- A packet that is queued: what its five words hold, but for the link, which follows from its place.
pub record QueuedPacket : Type 0 where
  -- the word address of its word 0
  pub address : ℕ
  -- its word 1: the number of the task or the device that sent it
  pub sender : ℕ
  -- its word 2: its type
  pub kind : ℕ
  -- its word 3: its first result
  pub res1 : ℕ
  -- its word 4: its second result, or, at the clock, the tick at which it is due
  pub last : ℕ

-- where the words of a packet begin
abbrev pub address_of : QueuedPacket → ℕ
address_of p = p.address

-- the words 1 to 4 of a packet
abbrev pub other_words : QueuedPacket → Pairs
other_words p = row_from p.address 1 (p.sender ∷ p.kind ∷ p.res1 ∷ p.last ∷ [])

-- the words of a packet, with this link
abbrev pub packet_words : QueuedPacket → ℕ → Pairs
packet_words p link = (p.address, link) ∷ other_words p

-- the head and the words of its packets, each linked to the next, the last one to 0
abbrev pub queue_words : ℕ → List QueuedPacket → Pairs
queue_words head ps = headed_words address_of packet_words head ps 0

-- the packets are queued at the head: the store holds their words, apart from one another and from the head
abbrev pub HeldQueue : List ℕ → ℕ → List QueuedPacket → Type 0
HeldQueue s head ps = AreHeld address_of packet_words s head ps

-- The store holds the words of these packets and p's words 1 to 4, and the words of the queue with p at its end are apart and
-- in the store.
pub record CanAppend (s : List ℕ) (head : ℕ) (ps : List QueuedPacket) (p : QueuedPacket) : Type 0 where
  -- the store holds the words of the queue
  pub holds : Holds s (queue_words head ps)
  -- and those of the packet, but for its link
  pub packet : Holds s (other_words p)
  -- no address is owned twice then
  pub apart : AreApart (queue_words head (ps ++ p ∷ []))
  -- the words lie in the store
  pub inside : AreInside s (queue_words head (ps ++ p ∷ []))
  -- no packet is at address 0
  pub some : AllByRecursion (λ q. 0 < q.address) (ps ++ p ∷ [])

-- the words of a queue are exchanged, and these words are written
pub record QueueExchange (s t : List ℕ) (before after old new writes : Pairs) : Type 0 where
  -- the old pairs go, and the new ones come
  pub exchange : Exchange before after old new
  -- these alone are written
  pub words : t ≡ written writes s

-- the word that has the link after these packets: the head, or word 0 of the last of them
abbrev pub link_behind : ℕ → List QueuedPacket → ℕ
link_behind head ps = last_cell address_of head ps

-- the first of these packets, or 0 where there are none
abbrev pub first_packet : List QueuedPacket → ℕ
first_packet ps = first_of address_of ps 0

-- a packet p comes to the end
abbrev pub AppendExchange : List ℕ → List ℕ → ℕ → List QueuedPacket → QueuedPacket → Type 0
AppendExchange s t head ps p =
    QueueExchange s t (queue_words head ps) (queue_words head (ps ++ p ∷ []))
    ((link_behind head ps, 0) ∷ [])
    ((link_behind head ps, p.address) ∷ packet_words p 0)
    ((link_behind head ps, p.address) ∷ (p.address, 0) ∷ [])

-- a packet p, due at that tick, comes between two parts of the queue
pub record DueExchange (s t : List ℕ) (head : ℕ) (ps : List QueuedPacket) (p : QueuedPacket) : Type 0 where
  -- the packets before it
  pub front : List QueuedPacket
  -- the packets after it
  pub back : List QueuedPacket
  -- these are the packets of the queue
  pub is : ps ≡ front ++ back
  -- it comes after all that are due no later
  pub becomes : insert_after (λ q. nat_le q.last p.last) p ps ≡ front ++ p ∷ back
  -- what it exchanges there
  pub words : QueueExchange s t (queue_words head (front ++ back)) (queue_words head (front ++ p ∷ back))
      ((link_behind head front, first_packet back) ∷ [])
      ((link_behind head front, p.address) ∷ packet_words p (first_packet back))
      ((due_word p.address, p.last) ∷ (link_behind head front, p.address) ∷ (p.address, first_packet back) ∷ [])

-- a packet p goes out from between two parts of the queue
abbrev pub RemoveExchange : List ℕ → List ℕ → ℕ → List QueuedPacket → QueuedPacket → List QueuedPacket → Type 0
RemoveExchange s t head front p back =
    QueueExchange s t (queue_words head (front ++ p ∷ back)) (queue_words head (front ++ back))
    ((link_behind head front, p.address) ∷ packet_words p (first_packet back))
    ((link_behind head front, first_packet back) ∷ [])
    ((p.address, no_queue) ∷ (link_behind head front, first_packet back) ∷ [])
