-- Packets whose words a store holds are in a queue, and a call exchanges some of these words.
use Rattle.std.proofs.Common.{◌≡◌, ℕ, ◌+◌, ◌<◌, ◌≤◌, List, [], ◌∷◌, ◌++◌, map, set, nat_le, sym, ap, ◌∙◌, subst, arith, append-nil}
use Rattle.std.specs.List.{AllByRecursion}
use Rattle.kernel_lists.specs.LinkedList.Chain.{last_cell}
use Rattle.word_store.specs.Count.{times, words_of}
use Rattle.kernel_lists.specs.LinkedList.Linked.{IsListAt, IsNode}
use Rattle.kernel_lists.specs.LinkedList.Places.{cell_after, linked_in}
use Rattle.word_store.proofs.Elements.{all-back, all-front}
use Rattle.word_store.proofs.Counts.{times-words_more, times-words_of}
use Rattle.kernel_lists.proofs.LinkedList.MappedLists.{cell_after-map, cell_after-same, last_cell-map, map-append}
use Rattle.kernel_lists.proofs.LinkedList.Places.{IsPlace, place}
use Rattle.kernel_lists.specs.OwnedWords.Exchange.{Exchange}
use Rattle.kernel_lists.specs.OwnedWords.Owned.{Holds, owners}
use Rattle.kernel_lists.specs.OwnedWords.LinkedWords.{AreNodes, first_of, linked_words}
use Rattle.kernel_lists.specs.OwnedWords.Written.{IsWritten}
use Rattle.kernel_lists.proofs.OwnedWords.Exchanges.{exchange-insert, exchange-remove, links-first}
use Rattle.kernel_lists.proofs.OwnedWords.HeldLists.{held-count, held-linked_in, held-list, held-nodes, held-without_node}
use Rattle.kernel_lists.proofs.OwnedWords.OwnedWords.{Holds-left, Holds-right}
use Rattle.kernel_lists.proofs.OwnedWords.RowWords.{owners-row}
use Rattle.kernel_lists.proofs.OwnedWords.WrittenWords.{writes-hold}
use Rattle.kernel_lists.specs.PacketQueue.Due.{is_due, last_due_link, with_due}
use Rattle.kernel_lists.specs.PacketQueue.Queue.{CanQueue, appended, last_link, link_of, no_queue, packet_size, unlinked}
use Rattle.kernel_lists.specs.PacketQueue.QueueWords.{AppendExchange, CanAppend, DueExchange, HeldQueue, QueuedPacket, RemoveExchange, address_of, first_packet, link_behind, other_words, packet_words, queue_words}

are_packets : AreNodes address_of packet_words link_of packet_size
are_packets =
    record {
      links = links-first address_of other_words;
      low = λ p. omega arith;
      high = λ p. omega arith;
      count = λ a p n. omega (arith, owners-row a p.address 1 (p.sender ∷ p.kind ∷ p.res1 ∷ p.last ∷ []));
    }

pub held-queue : (s : List ℕ) (head : ℕ) (ps : List QueuedPacket) → HeldQueue s head ps → IsListAt s link_of packet_size head (map address_of ps)
held-queue s head ps h = held-list address_of packet_words link_of packet_size are_packets s head ps h

-- the exchange where a packet comes in
packet-in : (head : ℕ) (front : List QueuedPacket) (p : QueuedPacket) (back : List QueuedPacket)
    → Exchange (queue_words head (front ++ back)) (queue_words head (front ++ p ∷ back)) ((link_behind head front, first_packet back) ∷ []) ((link_behind head front, p.address) ∷ packet_words p (first_packet back))
packet-in head front p back = exchange-insert address_of address_of packet_words (links-first address_of other_words) head front p back 0

-- the last link is that of the last packet
last_link-held : (s : List ℕ) (head : ℕ) (ps : List QueuedPacket) → HeldQueue s head ps → last_link s head ≡ link_behind head ps
last_link-held s head ps h = ap (last_cell link_of head) (held-queue s head ps h).list ∙ last_cell-map address_of link_of head ps

pub append-exchange : (s : List ℕ) (head : ℕ) (ps : List QueuedPacket) (p : QueuedPacket) → HeldQueue s head ps → AppendExchange s (appended s head p.address) head ps p
append-exchange s head ps p h =
    record {
      exchange = subst (λ z. Exchange (queue_words head z) (queue_words head (ps ++ p ∷ [])) ((link_behind head ps, 0) ∷ []) ((link_behind head ps, p.address) ∷ packet_words p 0)) (append-nil ps) (packet-in head ps p []);
      words = ap (λ z. set (set s p.address 0) z p.address) (last_link-held s head ps h);
    }

pub remove-exchange : (s : List ℕ) (head : ℕ) (ps : List QueuedPacket) (p : QueuedPacket) (qs : List QueuedPacket) → HeldQueue s head (ps ++ p ∷ qs) → RemoveExchange s (unlinked s head p.address) head ps p qs
remove-exchange s head ps p qs h =
    record {
      exchange = exchange-remove address_of address_of packet_words (links-first address_of other_words) head ps p qs 0;
      words = ap (λ z. set z p.address no_queue) (held-without_node address_of packet_words link_of packet_size are_packets s head ps p qs h);
    }

-- the due ticks of the packets are in the store
due-held : (s : List ℕ) (due : ℕ) (ps : List QueuedPacket) (end : ℕ) → Holds s (linked_words address_of packet_words ps end) → AllByRecursion (λ q. is_due s due q.address ≡ nat_le q.last due) ps
due-held s due [] end h = tt
due-held s due (q ∷ qs) end h =
    let own = Holds-left s (packet_words q (first_of address_of qs end)) (linked_words address_of packet_words qs end) h in
    (ap (λ w. nat_le w due) own.1.1.1.1.0, due-held s due qs end (Holds-right s (packet_words q (first_of address_of qs end)) (linked_words address_of packet_words qs end) h))

pub due-exchange : (s : List ℕ) (head : ℕ) (ps : List QueuedPacket) (p : QueuedPacket) → HeldQueue s head ps → DueExchange s (with_due s head p.address p.last) head ps p
due-exchange s head ps p h =
    let r : IsPlace (λ q. nat_le q.last p.last) address_of head p ps = place (λ q. nat_le q.last p.last) address_of head p ps in
    let cell : last_due_link s head p.last ≡ link_behind head r.front =
    ap (cell_after (is_due s p.last) link_of head) (held-queue s head ps h).list
    ∙ cell_after-map address_of (is_due s p.last) link_of head ps
    ∙ cell_after-same (λ q. is_due s p.last q.address) (λ q. nat_le q.last p.last) address_of head ps (due-held s p.last ps 0 h.holds.1)
    ∙ r.cell
    in
    let holds : Holds s (queue_words head (r.front ++ r.back)) = subst (λ z. Holds s (queue_words head z)) r.whole h.holds in
    record {
      front = r.front;
      back = r.back;
      is = r.whole;
      becomes = r.list;
      words =
          record {
            exchange = packet-in head r.front p r.back;
            words =
                ap (λ z. set (linked_in s link_of z p.address) (p.address + 4) p.last) cell
                ∙ ap (λ z. set z (p.address + 4) p.last) (held-linked_in address_of packet_words link_of packet_size are_packets s head r.front r.back p holds);
          };
    }

-- the queue that becomes longer, and that the packet may come in
pub record IsAppendable (s : List ℕ) (head : ℕ) (ps : List QueuedPacket) (p : QueuedPacket) : Type 0 where
  pub queue : HeldQueue s head ps
  pub packet : CanQueue s head p.address

pub appendable : (s : List ℕ) (head : ℕ) (ps : List QueuedPacket) (p : QueuedPacket) → CanAppend s head ps p → IsAppendable s head ps p
appendable s head ps p c =
    let x = packet-in head ps p [] in
    let before : (a : ℕ) → owners a (queue_words head (ps ++ [])) ≤ owners a (queue_words head (ps ++ p ∷ [])) = λ a. omega (arith, x.first.count a, x.then'.count a) in
    let less : (a : ℕ) → owners a (queue_words head ps) ≤ owners a (queue_words head (ps ++ p ∷ [])) = λ a.
    omega (arith, before a, ap (λ z. owners a (queue_words head z)) (append-nil ps))
    in
    let queue : HeldQueue s head ps =
    record {
      holds = c.holds;
      apart = λ a. omega (arith, c.apart a, less a);
      inside = λ a some. c.inside a (omega (arith, some, less a));
      some = all-front (λ q. 0 < q.address) ps (p ∷ []) c.some;
    }
    in
    let whole : map address_of (ps ++ p ∷ []) ≡ map address_of ps ++ p.address ∷ [] = map-append address_of ps (p ∷ []) in
    let nodes : AllByRecursion (IsNode s link_of packet_size) (map address_of ps ++ p.address ∷ []) =
    subst (AllByRecursion (IsNode s link_of packet_size)) whole
    (held-nodes address_of packet_words link_of packet_size are_packets s (ps ++ p ∷ []) 0 (λ a some. c.inside a (omega (arith, some))) c.some)
    in
    record {
      queue = queue;
      packet =
          record {
            node = (all-back (IsNode s link_of packet_size) (map address_of ps) (p.address ∷ []) nodes).0;
            apart = λ a.
                omega (
                  arith,
                  c.apart a,
                  held-count address_of packet_words link_of packet_size are_packets a (ps ++ p ∷ []) 0,
                  ap (λ z. times a (words_of packet_size z)) whole,
                  times-words_of packet_size a (map address_of ps) (p.address ∷ []),
                  times-words_more packet_size a p.address [],
                  ap (λ z. times a (words_of packet_size z)) (held-queue s head ps queue).list,
                );
          };
    }

-- For the last link the exchange is that link, now to p, and p's words; of these the two links are written, and the others kept.
pub appended-words : (s : List ℕ) (head : ℕ) (ps : List QueuedPacket) (p : QueuedPacket) → CanAppend s head ps p
    → IsWritten s (appended s head p.address) (queue_words head (ps ++ p ∷ [])) []
appended-words s head ps p c =
    let x : AppendExchange s (appended s head p.address) head ps p = append-exchange s head ps p (appendable s head ps p c).queue in
    subst (λ t. IsWritten s t (queue_words head (ps ++ p ∷ [])) []) (sym x.words)
    (writes-hold s (queue_words head ps) (queue_words head (ps ++ p ∷ [])) ((link_behind head ps, 0) ∷ []) ((link_behind head ps, p.address) ∷ (p.address, 0) ∷ []) (other_words p) []
    (record {
      holds = c.holds;
      exchange = x.exchange;
      there = c.packet;
      apart = c.apart;
      inside = c.inside;
      unowned = λ a some. absurd (omega (arith, some));
    }))
