-- The residents' two packets come into queues and go out, and the lists stay valid.
use Rattle.std.proofs.Common.{◌≡◌, ℕ, ◌+◌, ◌<◌, ◌≤◌, List, [], ◌∷◌, ◌++◌, cond, eqb, is_some, not, ◌&&◌, Bool, true, false, Option, Some, None, refl, sym, ap, ◌∙◌, subst, arith}
use Rattle.std.specs.List.{AllByRecursion, range_with_len}
use Rattle.std.proofs.lemmas.Bool.{and_from, and_parts, eq-eqb, eqb-true, false≢true}
use Rattle.word_store.specs.Count.{times}
use Rattle.kernel_lists.specs.OwnedWords.Owned.{owners}
use Rattle.kernel_lists.proofs.OwnedWords.RowWords.{owners-row}
use Rattle.kernel_lists.specs.PacketQueue.Queue.{no_queue}
use Rattle.kernel_lists.specs.PacketQueue.QueueWords.{QueuedPacket, packet_words, queue_words}
use Rattle.kernel_model.specs.KernelRecord.Changes.{HasPlace, KeepsOrder, queue_of, with_fault_packet, with_key, with_queue}
use Rattle.kernel_model.specs.KernelRecord.Lists.{Lists, has_task, is_queued}
use Rattle.kernel_model.specs.KernelRecord.Owned.{device_words, owned}
use Rattle.kernel_model.specs.KernelRecord.Residents.{fault_packet, fault_packet_words, key_arguments, key_packet, key_words, keyboard, pending_head, resident_words}
use Rattle.kernel_model.specs.KernelRecord.ValidBlocks.{AreData, HasBlock, last_resident_word}
use Rattle.kernel_model.specs.KernelRecord.ValidLists.{AreValid}
use Rattle.kernel_model.specs.KernelRecord.ValidQueues.{IsFaultPacket, IsKeyPacket, IsValidPacket, Place, is_key_packet}
use Rattle.kernel_model.specs.KernelRecord.ValidQueues.Place.{Clock, Keyboard, Output, Pending, Work}
use Rattle.kernel_model.proofs.KernelRecord.AllThings.{all-beside, all-between, any-between, any-here}
use Rattle.kernel_model.proofs.KernelRecord.DataInside.{HasBlock-data}
use Rattle.kernel_model.proofs.KernelRecord.OwnedPackets.{queued-owned}
use Rattle.kernel_model.proofs.KernelRecord.OwnerCounts.{owned-queues, owners-packet_between, owners-residents, owns-fewer, packets_count}
use Rattle.kernel_model.proofs.KernelRecord.PacketMoves.{unqueued-unowned}
use Rattle.kernel_model.proofs.KernelRecord.QueueCounts.{owned-queue, owners-packet}
use Rattle.kernel_model.proofs.KernelRecord.QueuePlaces.{KeepsOrder-beside, is_queued-here, is_queued-place, place-order, place-there, place-valid, valid-at-place, with_packets, with_queue-key, with_queue-packets, with_queue-residents, with_queue-size}
use Rattle.kernel_model.proofs.KernelRecord.QueuedPackets.{fault-kept, is_on_queue, key-kept}
use Rattle.kernel_model.proofs.KernelRecord.TaskPlaces.{last-resident}

-- ---- what they own while they are on no queue

-- five words, as on a queue
pub owners-key : (a res1 : ℕ) → owners a (key_words (Some res1)) ≡ times a (range_with_len key_packet 5)
owners-key a res1 = owners-row a key_packet 0 (no_queue ∷ keyboard ∷ 0 ∷ res1 ∷ 0 ∷ [])

pub owners-fault : (a : ℕ) → owners a (fault_packet_words true) ≡ times a (range_with_len fault_packet 5)
owners-fault a = owners-row a fault_packet 0 (no_queue ∷ 0 ∷ 0 ∷ 0 ∷ 0 ∷ [])

-- another state of the two
owned-packets : (a : ℕ) (l : Lists) (x : Option ℕ) (f : Bool) → l.residents ≡ true
    → owners a (owned (with_packets x f l)) + (owners a (key_words l.key) + owners a (fault_packet_words l.fault_packet_free)) ≡ owners a (owned l) + (owners a (key_words x) + owners a (fault_packet_words f))
owned-packets a l x f is =
    owned-queues a l (owners a (key_words l.key) + owners a (fault_packet_words l.fault_packet_free)) (owners a (key_words x) + owners a (fault_packet_words f)) l.clock l.keyboard l.output l.pending x f
    (plain (owners a (resident_words l)) (owners a (resident_words (with_packets x f l))) (owners a (queue_words pending_head l.pending)) (owners a (key_words l.key)) (owners a (key_words x)) (owners a key_arguments)
    (owners a (fault_packet_words l.fault_packet_free)) (owners a (fault_packet_words f)) (owners a (device_words l)) (owners-residents a l is) (owners-residents a (with_packets x f l) is))
  where
    plain : (r r' p k k' g f f' d : ℕ) → r ≡ p + (k + (g + f)) → r' ≡ p + (k' + (g + f')) → (d + r') + (k + f) ≡ (d + r) + (k' + f')
    plain r r' p k k' g f f' d e h = omega arith

-- ---- a queue changes with their state

module _ (l : Lists) (at : Place) (p : QueuedPacket) (front back : List QueuedPacket) (x : Option ℕ) (f : Bool) (v : AreValid l) (has : HasPlace l at) (r : l.residents ≡ true) where
  -- what is owned in these two states
  abbrev before : ℕ → ℕ
  before a = owners a (key_words l.key) + owners a (fault_packet_words l.fault_packet_free)

  abbrev after : ℕ → ℕ
  after a = owners a (key_words x) + owners a (fault_packet_words f)

  count : (a : ℕ) (ps : List QueuedPacket) → owners a (owned (with_packets x f (with_queue at ps l))) + (before a + packets_count a (queue_of at l)) ≡ owners a (owned l) + (after a + packets_count a ps)
  count a ps =
      plain (owners a (owned (with_packets x f (with_queue at ps l)))) (owners a (owned (with_queue at ps l))) (owners a (owned l)) (before a) (after a) (packets_count a (queue_of at l)) (packets_count a ps)
      (subst (λ m. owners a (owned (with_packets x f m)) + before a ≡ owners a (owned m) + after a) (with_queue-packets l at ps)
      (owned-packets a (with_packets l.key l.fault_packet_free (with_queue at ps l)) x f (with_queue-residents at ps l ∙ r)))
      (owned-queue a l at ps v.tasks.distinct has)
    where
      plain : (m n w b c q s : ℕ) → m + b ≡ n + c → n + q ≡ w + s → m + (b + q) ≡ w + (c + s)
      plain m n w b c q s e g = omega arith

  pub comes : queue_of at l ≡ front ++ back → IsValidPacket l at p → KeepsOrder at (front ++ p ∷ back)
      → is_some x ≡ (l.residents && not (is_queued key_packet (with_queue at (front ++ p ∷ back) l))) → f ≡ (has_task 2 l.tasks && not (is_queued fault_packet (with_queue at (front ++ p ∷ back) l)))
      → ((a : ℕ) → after a + owners a (packet_words p 0) ≤ before a) → AreValid (with_packets x f (with_queue at (front ++ p ∷ back) l))
  comes is valid-packet order key fault less =
      place-valid l at (front ++ p ∷ back) x f v has (all-between (IsValidPacket l at) front p back valid-packet (subst (AllByRecursion (IsValidPacket l at)) is (valid-at-place l at v has))) order key fault
      (owns-fewer l (with_packets x f (with_queue at (front ++ p ∷ back) l)) (with_queue-size at (front ++ p ∷ back) l)
      (λ a. plain (owners a (owned (with_packets x f (with_queue at (front ++ p ∷ back) l)))) (owners a (owned l)) (before a) (after a) (packets_count a (queue_of at l)) (packets_count a (front ++ p ∷ back)) (packets_count a (front ++ back)) (owners a (packet_words p 0))
      (count a (front ++ p ∷ back)) (ap (packets_count a) is) (owners-packet_between a front p back) (less a))
      v.owns)
    where
      plain : (m w b c q s t n : ℕ) → m + (b + q) ≡ w + (c + s) → q ≡ t → s ≡ t + n → c + n ≤ b → m ≤ w
      plain m w b c q s t n e g h le = omega arith

  pub goes : queue_of at l ≡ front ++ p ∷ back
      → is_some x ≡ (l.residents && not (is_queued key_packet (with_queue at (front ++ back) l))) → f ≡ (has_task 2 l.tasks && not (is_queued fault_packet (with_queue at (front ++ back) l)))
      → ((a : ℕ) → after a ≤ before a + owners a (packet_words p 0)) → AreValid (with_packets x f (with_queue at (front ++ back) l))
  goes is key fault less =
      place-valid l at (front ++ back) x f v has (all-beside (IsValidPacket l at) front p back (subst (AllByRecursion (IsValidPacket l at)) is (valid-at-place l at v has)))
      (KeepsOrder-beside at front p back (subst (KeepsOrder at) is (place-order l at v))) key fault
      (owns-fewer l (with_packets x f (with_queue at (front ++ back) l)) (with_queue-size at (front ++ back) l)
      (λ a. plain (owners a (owned (with_packets x f (with_queue at (front ++ back) l)))) (owners a (owned l)) (before a) (after a) (packets_count a (queue_of at l)) (packets_count a (front ++ p ∷ back)) (packets_count a (front ++ back)) (owners a (packet_words p 0))
      (count a (front ++ back)) (ap (packets_count a) is) (owners-packet_between a front p back) (less a))
      v.owns)
    where
      plain : (m w b c q s t n : ℕ) → m + (b + q) ≡ w + (c + t) → q ≡ s → s ≡ t + n → c ≤ b + n → m ≤ w
      plain m w b c q s t n e g h le = omega arith

-- once it is off its queue a packet is on none
gone-unqueued : (l : Lists) (at : Place) (p : QueuedPacket) (front back : List QueuedPacket) → AreValid l → l.residents ≡ true → queue_of at l ≡ front ++ p ∷ back
    → is_queued p.address (with_queue at (front ++ back) l) ≡ false
gone-unqueued l at p front back v r is = on (is_queued p.address m) refl
  where
    m : Lists
    m = with_queue at (front ++ back) l

    nobody : owners p.address (owned m) ≡ 0
    nobody = unqueued-unowned l at p front back v is p.address (omega arith) (omega arith)

    on : (b : Bool) → is_queued p.address m ≡ b → b ≡ false
    on false e = refl
    on true e = absurd (clash (owners p.address (owned m)) nobody (queued-owned p.address m (λ none. absurd (false≢true (sym none ∙ with_queue-residents at (front ++ back) l ∙ r))) e))
      where
        clash : (n : ℕ) → n ≡ 0 → 0 < n → ⊥
        clash n e some = omega arith

-- ---- the key packet

-- it is where it may be
key-place : (l : Lists) (at : Place) (p : QueuedPacket) → AreValid l → l.residents ≡ true → IsKeyPacket at p → HasPlace l at
key-place l (Work id) p v r k = ap (λ i. has_task i l.tasks) k.place.0 ∙ v.tasks.console ∙ r
key-place l Clock p v r k = tt
key-place l Keyboard p v r k = tt
key-place l Output p v r k = tt
key-place l Pending p v r k = r

key-order : (at : Place) (p : QueuedPacket) (ps : List QueuedPacket) → IsKeyPacket at p → KeepsOrder at ps
key-order (Work id) p ps k = tt
key-order Clock p ps k = absurd k.place
key-order Keyboard p ps k = tt
key-order Output p ps k = tt
key-order Pending p ps k = tt

-- the words 0 to 4 of the two lie in the resident block
key-lodged : (l : Lists) → AreValid l → l.residents ≡ true → AreData l.blocks key_packet 5
key-lodged l v r = HasBlock-data l 201 (last_resident_word l) key_packet 5 v.blocks (v.numbers.residents r) (omega arith) (large (last_resident_word l) (last-resident l)) (omega arith)
  where
    large : (n : ℕ) → 86 ≤ n → key_packet + 5 ≤ 201 + n + 1
    large n low = omega arith

pub key_queued-valid : (l : Lists) (at : Place) (p : QueuedPacket) (front back : List QueuedPacket) → AreValid l → queue_of at l ≡ front ++ back → is_some l.key ≡ true → p.address ≡ key_packet
    → IsKeyPacket at p → AreValid (with_key None (with_queue at (front ++ p ∷ back) l))
key_queued-valid l at p front back v is free address k =
    subst AreValid (with_queue-key l at ps None)
    (comes l at p front back None l.fault_packet_free v has r is valid-packet (key-order at p ps k)
    (sym (ap (λ b. l.residents && not b) here ∙ ap (λ b. b && false) r))
    (fault-kept l (with_queue at ps l) v.queues.fault
    (λ _. is_queued-place fault_packet l at ps v.tasks.distinct has (any-between (λ q. eqb q.address fault_packet) front p back (ap (λ a. eqb a fault_packet) address) ∙ ap (is_on_queue fault_packet) (sym is))))
    (λ a. less a l.key free))
  where
    ps : List QueuedPacket
    ps = front ++ p ∷ back

    r : l.residents ≡ true
    r = (and_parts l.residents (not (is_queued key_packet l)) (sym v.queues.key ∙ free)).0

    has : HasPlace l at
    has = key-place l at p v r k

    is_key : is_key_packet l p ≡ true
    is_key = and_from l.residents (eqb p.address key_packet) r (eq-eqb p.address key_packet address)

    here : is_queued key_packet (with_queue at ps l) ≡ true
    here = is_queued-here key_packet l at ps v.tasks.distinct has (any-here (λ q. eqb q.address key_packet) front p back (eq-eqb p.address key_packet address))

    valid-packet : IsValidPacket l at p
    valid-packet =
        record {
          lodged = subst (λ a. AreData l.blocks a 5) (sym address) (key-lodged l v r);
          key = λ _. k;
          fault = λ e. absurd (omega (arith, address, eqb-true p.address fault_packet (and_parts (has_task 2 l.tasks) (eqb p.address fault_packet) e).1));
          sender = λ none. absurd (false≢true (sym none ∙ is_key));
        }

    less : (a : ℕ) (x : Option ℕ) → is_some x ≡ true → (0 + owners a (fault_packet_words l.fault_packet_free)) + owners a (packet_words p 0) ≤ owners a (key_words x) + owners a (fault_packet_words l.fault_packet_free)
    less a None some = cc
    less a (Some res1) some =
        plain (owners a (fault_packet_words l.fault_packet_free)) (owners a (packet_words p 0)) (owners a (key_words (Some res1)))
        (owners-packet a p 0 ∙ ap (λ z. times a (range_with_len z 5)) address ∙ sym (owners-key a res1))
      where
        plain : (f n k : ℕ) → n ≡ k → (0 + f) + n ≤ k + f
        plain f n k e = omega arith

pub key_unqueued-valid : (l : Lists) (at : Place) (p : QueuedPacket) (front back : List QueuedPacket) → AreValid l → queue_of at l ≡ front ++ p ∷ back → is_key_packet l p ≡ true
    → AreValid (with_key (Some p.res1) (with_queue at (front ++ back) l))
key_unqueued-valid l at p front back v is is_key =
    subst AreValid (with_queue-key l at (front ++ back) (Some p.res1))
    (goes l at p front back (Some p.res1) l.fault_packet_free v has r is
    (sym (λ i. r i && not (nowhere i)))
    (fault-kept l (with_queue at (front ++ back) l) v.queues.fault
    (λ _. is_queued-place fault_packet l at (front ++ back) v.tasks.distinct has (sym (any-between (λ q. eqb q.address fault_packet) front p back (ap (λ a. eqb a fault_packet) address)) ∙ ap (is_on_queue fault_packet) (sym is))))
    (λ a. less a))
  where
    r : l.residents ≡ true
    r = (and_parts l.residents (eqb p.address key_packet) is_key).0

    address : p.address ≡ key_packet
    address = eqb-true p.address key_packet (and_parts l.residents (eqb p.address key_packet) is_key).1

    has : HasPlace l at
    has = place-there l at front p back v is

    nowhere : is_queued key_packet (with_queue at (front ++ back) l) ≡ false
    nowhere = subst (λ a. is_queued a (with_queue at (front ++ back) l) ≡ false) address (gone-unqueued l at p front back v r is)

    less : (a : ℕ) → owners a (key_words (Some p.res1)) + owners a (fault_packet_words l.fault_packet_free) ≤ (owners a (key_words l.key) + owners a (fault_packet_words l.fault_packet_free)) + owners a (packet_words p 0)
    less a =
        plain (owners a (fault_packet_words l.fault_packet_free)) (owners a (packet_words p 0)) (owners a (key_words (Some p.res1))) (owners a (key_words l.key))
        (owners-packet a p 0 ∙ ap (λ z. times a (range_with_len z 5)) address ∙ sym (owners-key a p.res1))
      where
        plain : (f n k h : ℕ) → n ≡ k → k + f ≤ (h + f) + n
        plain f n k h e = omega arith

-- ---- the fault packet

pub fault_queued-valid : (l : Lists) (p : QueuedPacket) (front back : List QueuedPacket) → AreValid l → queue_of (Work 2) l ≡ front ++ back → l.fault_packet_free ≡ true → p.address ≡ fault_packet
    → IsFaultPacket (Work 2) p → has_task p.sender l.tasks ≡ true → AreValid (with_fault_packet false (with_queue (Work 2) (front ++ p ∷ back) l))
fault_queued-valid l p front back v is free address k there =
    comes l (Work 2) p front back l.key false v has r is valid-packet tt
    (key-kept l (with_queue (Work 2) ps l) v.queues.key
    (λ _. is_queued-place key_packet l (Work 2) ps v.tasks.distinct has (any-between (λ q. eqb q.address key_packet) front p back (ap (λ a. eqb a key_packet) address) ∙ ap (is_on_queue key_packet) (sym is))))
    (sym (ap (λ b. has_task 2 l.tasks && not b) here ∙ ap (λ b. b && false) has))
    (λ a. less a)
  where
    ps : List QueuedPacket
    ps = front ++ p ∷ back

    has : has_task 2 l.tasks ≡ true
    has = (and_parts (has_task 2 l.tasks) (not (is_queued fault_packet l)) (sym v.queues.fault ∙ free)).0

    r : l.residents ≡ true
    r = v.tasks.reporter has

    no_key : is_key_packet l p ≡ false
    no_key = ap (λ a. l.residents && eqb a key_packet) address ∙ ap (λ b. b && false) r

    here : is_queued fault_packet (with_queue (Work 2) ps l) ≡ true
    here = is_queued-here fault_packet l (Work 2) ps v.tasks.distinct has (any-here (λ q. eqb q.address fault_packet) front p back (eq-eqb p.address fault_packet address))

    lodged : AreData l.blocks fault_packet 5
    lodged =
        HasBlock-data l 201 114 fault_packet 5 v.blocks (subst (λ b. HasBlock l.blocks 201 (cond b 114 86)) has (v.numbers.residents r)) (omega arith) (omega arith) (omega arith)

    valid-packet : IsValidPacket l (Work 2) p
    valid-packet =
        record {
          lodged = subst (λ a. AreData l.blocks a 5) (sym address) lodged;
          key = λ e. absurd (false≢true (sym no_key ∙ e));
          fault = λ _. k;
          sender = λ _ _. there;
        }

    less : (a : ℕ) → (owners a (key_words l.key) + 0) + owners a (packet_words p 0) ≤ owners a (key_words l.key) + owners a (fault_packet_words l.fault_packet_free)
    less a =
        plain (owners a (key_words l.key)) (owners a (packet_words p 0)) (owners a (fault_packet_words l.fault_packet_free))
        (owners-packet a p 0 ∙ ap (λ z. times a (range_with_len z 5)) address ∙ sym (owners-fault a) ∙ ap (λ b. owners a (fault_packet_words b)) (sym free))
      where
        plain : (k n f : ℕ) → n ≡ f → (k + 0) + n ≤ k + f
        plain k n f e = omega arith

pub fault_unqueued-valid : (l : Lists) (p : QueuedPacket) (front back : List QueuedPacket) → AreValid l → queue_of (Work 2) l ≡ front ++ p ∷ back → p.address ≡ fault_packet
    → AreValid (with_fault_packet true (with_queue (Work 2) (front ++ back) l))
fault_unqueued-valid l p front back v is address =
    goes l (Work 2) p front back l.key true v has r is
    (key-kept l (with_queue (Work 2) (front ++ back) l) v.queues.key
    (λ _. is_queued-place key_packet l (Work 2) (front ++ back) v.tasks.distinct has (sym (any-between (λ q. eqb q.address key_packet) front p back (ap (λ a. eqb a key_packet) address)) ∙ ap (is_on_queue key_packet) (sym is))))
    (sym (λ i. has i && not (nowhere i)))
    (λ a. less a)
  where
    has : has_task 2 l.tasks ≡ true
    has = place-there l (Work 2) front p back v is

    r : l.residents ≡ true
    r = v.tasks.reporter has

    nowhere : is_queued fault_packet (with_queue (Work 2) (front ++ back) l) ≡ false
    nowhere = subst (λ a. is_queued a (with_queue (Work 2) (front ++ back) l) ≡ false) address (gone-unqueued l (Work 2) p front back v r is)

    less : (a : ℕ) → owners a (key_words l.key) + owners a (fault_packet_words true) ≤ (owners a (key_words l.key) + owners a (fault_packet_words l.fault_packet_free)) + owners a (packet_words p 0)
    less a =
        plain (owners a (key_words l.key)) (owners a (packet_words p 0)) (owners a (fault_packet_words true)) (owners a (fault_packet_words l.fault_packet_free))
        (owners-packet a p 0 ∙ ap (λ z. times a (range_with_len z 5)) address ∙ sym (owners-fault a))
      where
        plain : (k n f g : ℕ) → n ≡ f → k + f ≤ (k + g) + n
        plain k n f g e = omega arith
