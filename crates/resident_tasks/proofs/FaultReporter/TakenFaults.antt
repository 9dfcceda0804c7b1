-- The fault packet goes off the queue of the task that reports faults.
use Rattle.std.proofs.Common.{◌≡◌, ◌≢◌, ℕ, ◌+◌, ◌<◌, ◌≤◌, true, false, List, [], ◌∷◌, ◌++◌, eqb, get_or, set, refl, sym, ap, ◌∙◌, subst, arith, length, get_or-set_other, get_or-set_same}
use Rattle.std.specs.List.{AllByRecursion, range_with_len}
use Rattle.std.proofs.lemmas.Bool.{and_from, eq-eqb, eqb-true, or_left}
use Rattle.word_store.specs.Count.{times}
use Rattle.kernel_lists.specs.LinkedList.Places.{has}
use Rattle.word_store.proofs.Counts.{hit-other, times-within}
use Rattle.kernel_lists.specs.OwnedWords.Exchange.{Exchange}
use Rattle.kernel_lists.specs.OwnedWords.Owned.{Holds, owners}
use Rattle.kernel_lists.specs.OwnedWords.Written.{IsWritten}
use Rattle.kernel_lists.proofs.OwnedWords.OwnedWords.{Holds-same, length-written, written-other}
use Rattle.kernel_lists.specs.PacketQueue.Queue.{HasQueue, no_queue, queue_at}
use Rattle.kernel_lists.specs.PacketQueue.QueueWords.{QueuedPacket}
use Rattle.kernel_model.specs.KernelRecord.ChangedStore.{IsChanged}
use Rattle.kernel_model.specs.KernelRecord.Changes.{queue_of, with_queue}
use Rattle.kernel_model.specs.KernelRecord.HoldsLists.{HoldsLists}
use Rattle.kernel_model.specs.KernelRecord.Lists.{Lists, address_of_task, has_task}
use Rattle.kernel_model.specs.KernelRecord.Owned.{owned}
use Rattle.kernel_model.specs.KernelRecord.Residents.{fault_packet, fault_packet_words}
use Rattle.kernel_model.specs.KernelRecord.ValidLists.{AreValid}
use Rattle.kernel_model.specs.KernelRecord.ValidQueues.{IsFaultPacket, IsValidPacket}
use Rattle.kernel_model.specs.KernelRecord.ValidQueues.Place.{Work}
use Rattle.kernel_model.proofs.KernelRecord.QueuePlaces.{valid-at-place}
use Rattle.kernel_model.proofs.KernelRecord.ResidentPackets.{fault_unqueued-valid, owners-fault}
use Rattle.kernel_calls.specs.PacketCalls.Destinations.{queue_for}
use Rattle.kernel_calls.specs.PacketCalls.PacketMoves.{is_on_queue}
use Rattle.kernel_calls.specs.PacketCalls.QueueWords.{head_of, unqueued}
use Rattle.kernel_calls.specs.declared.packet_calls.queues.Queue.TheVariants as queues
use Rattle.kernel_calls.proofs.PacketCalls.Departure.{departed-size, departed-written, held-before, others-kept, owners-departed, packet-inside}
use Rattle.kernel_calls.proofs.PacketCalls.HeldPlaces.{has-at, valid-at}
use Rattle.resident_tasks.specs.ResidentRequests.Requests.{RunsResident, work}
use Rattle.resident_tasks.specs.FaultReporter.FaultTurns.{IsFaultFirst, packet_taken, sender_of, fault_taken_from}
use Rattle.resident_tasks.specs.FaultReporter.Recorded.{OwnsSame}
use Rattle.resident_tasks.proofs.FaultReporter.FaultPacket.{free-is, packet-exchange}

-- a queue that begins with the fault packet
record FaultFirst (qs : List QueuedPacket) : Type 0 where
  pub packet : QueuedPacket
  pub back : List QueuedPacket
  pub is : qs ≡ packet ∷ back
  pub address : packet.address ≡ fault_packet

fault-first : (qs : List QueuedPacket) → IsFaultFirst qs → FaultFirst qs
fault-first [] e = cc
fault-first (p ∷ ps) e = record { packet = p; back = ps; is = refl; address = eqb-true p.address fault_packet e }

module _ (s : List ℕ) (l : Lists) (h : HoldsLists s l) (r : RunsResident l) (two : l.running ≡ 2) (f : IsFaultFirst (work l)) where
  abbrev there : has_task 2 l.tasks ≡ true
  there = sym (ap (λ i. has_task i l.tasks) two) ∙ r.there

  abbrev first : FaultFirst (work l)
  first = fault-first (work l) f

  abbrev q : QueuedPacket
  q = first.packet

  abbrev back : List QueuedPacket
  back = first.back

  -- the lists without it, in which it is nowhere
  abbrev m : Lists
  m = with_queue (Work 2) back l

  abbrev after : Lists
  after = packet_taken back l

  is : queue_of (Work 2) l ≡ [] ++ q ∷ back
  is = sym (ap (λ i. queue_of (Work i) l) two) ∙ first.is

  valid : AreValid after
  valid = fault_unqueued-valid l q [] back h.valid is first.address

  valid-packet : IsValidPacket l (Work 2) q
  valid-packet = (subst (AllByRecursion (IsValidPacket l (Work 2))) is (valid-at-place l (Work 2) h.valid there)).0

  kind : IsFaultPacket (Work 2) q
  kind = valid-packet.fault (and_from (has_task 2 l.tasks) (eqb q.address fault_packet) there (eq-eqb q.address fault_packet first.address))

  -- it waits, so it is not free
  waits : l.fault_packet_free ≡ false
  waits =
      free-is l there true h.valid
      (sym (ap (is_on_queue fault_packet) is ∙ or_left (eqb fault_packet q.address) (is_on_queue fault_packet back) (eq-eqb fault_packet q.address (sym first.address))))

  comes : Exchange (owned m) (owned after) (fault_packet_words m.fault_packet_free) (fault_packet_words true)
  comes = packet-exchange m true (h.valid.tasks.reporter there)

  module _ (t : ℕ) (at : t ≡ address_of_task l l.running) where
    queue-is : queues.Work t ≡ queue_for l (Work 2)
    queue-is = ap queues.Work at ∙ ap (λ i. queue_for l (Work i)) two

    pub take-queue : HasQueue s (head_of (queues.Work t))
    take-queue = subst (λ z. HasQueue s (head_of z)) (sym queue-is) (valid-at s l (Work 2) h there)

    pub take-packet : has fault_packet (queue_at s (head_of (queues.Work t))) ≡ true
    take-packet =
        subst (λ z. has fault_packet (queue_at s (head_of z)) ≡ true) (sym queue-is)
        (has-at s l (Work 2) h there fault_packet
        ∙ ap (is_on_queue fault_packet) is
        ∙ or_left (eqb fault_packet q.address) (is_on_queue fault_packet back) (eq-eqb fault_packet q.address (sym first.address)))

    pub sender-is : get_or s 311 0 ≡ sender_of (work l)
    sender-is = sym (ap (λ a. get_or s (a + 1) 0) first.address) ∙ (held-before s l (Work 2) q [] back h is).holds.1.1.0 ∙ sym (ap sender_of first.is)

    module _ (u v : List ℕ) (is_u : u ≡ unqueued s (queues.Work t) fault_packet) (is_v : v ≡ set (set u 311 0) 312 0) where
      left : u ≡ unqueued s (queue_for l (Work 2)) q.address
      left = is_u ∙ (λ i. unqueued s (queue-is i) (sym first.address i))

      outside : IsWritten s u (owned m) ((q.address, no_queue) ∷ [])
      outside = departed-written s l (Work 2) q [] back h is u left

      long : length v ≡ length s
      long = ap length is_v ∙ (length-written ((312, 0) ∷ (311, 0) ∷ []) u ∙ departed-size s l (Work 2) q [] back h is u left)

      inside : (a : ℕ) → fault_packet ≤ a → a < fault_packet + 5 → a < length s
      inside a low high = packet-inside s l (Work 2) q [] back h is a (omega (arith, low, first.address)) (omega (arith, high, first.address))

      -- the five words are owned as before
      five : (a : ℕ) → owners a (owned l) ≡ owners a (owned m) + times a (range_with_len fault_packet 5)
      five a = owners-departed s l (Work 2) q [] back h is a ∙ ap (λ z. owners a (owned m) + times a (range_with_len z 5)) first.address

      more : (a : ℕ) → owners a (owned after) ≡ owners a comes.rest + times a (range_with_len fault_packet 5)
      more a = omega (arith, comes.then'.count a, owners-fault a)

      rest-is : (a : ℕ) → owners a (owned m) ≡ owners a comes.rest
      rest-is a = omega (arith, comes.first.count a, ap (λ b. owners a (fault_packet_words b)) waits)

      same : (a : ℕ) → owners a (owned after) ≡ owners a (owned l)
      same a = omega (arith, more a, rest-is a, five a)

      others : (a : ℕ) → a ≢ 311 → a ≢ 312 → get_or v a 0 ≡ get_or u a 0
      others a ne other = ap (λ z. get_or z a 0) is_v ∙ written-other a ((312, 0) ∷ (311, 0) ∷ []) u (omega (arith, hit-other a 311 ne, hit-other a 312 other))

      -- words that are another's are none of the five
      beside : (a : ℕ) → 0 < owners a comes.rest → (b : ℕ) → fault_packet ≤ b → b < fault_packet + 5 → a ≢ b
      beside a some b low high e = absurd (omega (arith, valid.owns.apart a, more a, some, times-within a fault_packet 5 (omega (arith, e, low)) (omega (arith, e, high))))

      rest-holds : Holds v comes.rest
      rest-holds =
          Holds-same u v comes.rest (comes.first.opens u outside.holds).0 (λ a some. others a (beside a some 311 (omega arith) (omega arith)) (beside a some 312 (omega arith) (omega arith)))

      unowned : (a : ℕ) → fault_packet ≤ a → a < fault_packet + 5 → owners a (owned m) ≡ 0
      unowned a low high = omega (arith, five a, h.valid.owns.apart a, times-within a fault_packet 5 low high)

      link : get_or v 310 0 ≡ no_queue
      link =
          others 310 (λ e. absurd (omega (arith, e))) (λ e. absurd (omega (arith, e)))
          ∙ outside.others 310 (unowned 310 (omega arith) (omega arith))
          ∙ ap (λ a. get_or (set s a no_queue) 310 0) first.address
          ∙ get_or-set_same s 310 no_queue 0 (inside 310 (omega arith) (omega arith))

      first-zero : get_or v 311 0 ≡ 0
      first-zero =
          ap (λ z. get_or z 311 0) is_v
          ∙ get_or-set_other (set u 311 0) 312 311 0 0 (λ e. absurd (omega (arith, e)))
          ∙ get_or-set_same u 311 0 0 (omega (arith, inside 311 (omega arith) (omega arith), departed-size s l (Work 2) q [] back h is u left))

      second-zero : get_or v 312 0 ≡ 0
      second-zero =
          ap (λ z. get_or z 312 0) is_v
          ∙ get_or-set_same (set u 311 0) 312 0 0 (omega (arith, inside 312 (omega arith) (omega arith), departed-size s l (Work 2) q [] back h is u left, length-written ((311, 0) ∷ []) u))

      -- its results were 0
      kept : (i : ℕ) → 2 < i → i < 5 → get_or v (310 + i) 0 ≡ get_or s (q.address + i) 0
      kept i low high =
          others (310 + i) (λ e. absurd (omega (arith, e, low))) (λ e. absurd (omega (arith, e, low)))
          ∙ (λ k. get_or (left k) (sym first.address k + i) 0)
          ∙ others-kept s l (Work 2) q [] back h is (q.address + i) (omega (arith, low)) (omega (arith, high))

      packet-holds : Holds v (fault_packet_words true)
      packet-holds =
          let own = (held-before s l (Work 2) q [] back h is).holds.1 in
          (link, (first-zero, (second-zero, (kept 3 (omega arith) (omega arith) ∙ own.1.1.1.0 ∙ kind.res1, (kept 4 (omega arith) (omega arith) ∙ own.1.1.1.1.0 ∙ kind.last, tt)))))

      holds : Holds v (owned after)
      holds = comes.then'.closes v rest-holds packet-holds

      elsewhere : (a : ℕ) → owners a (owned after) ≡ 0 → (b : ℕ) → fault_packet ≤ b → b < fault_packet + 5 → a ≢ b
      elsewhere a none b low high e = absurd (omega (arith, more a, none, times-within a fault_packet 5 (omega (arith, e, low)) (omega (arith, e, high))))

      changed : IsChanged s v after []
      changed =
          record {
            lists = record { valid = valid; size = long ∙ h.size; holds = holds };
            size = long;
            written =
                record {
                  holds = holds;
                  others = λ a none.
                      others a (elsewhere a none 311 (omega arith) (omega arith)) (elsewhere a none 312 (omega arith) (omega arith))
                      ∙ outside.others a (omega (arith, rest-is a, more a, none))
                      ∙ get_or-set_other s q.address a no_queue 0 (λ e. elsewhere a none 310 (omega arith) (omega arith) (e ∙ first.address));
                };
          }

      pub is-taken : OwnsSame s v l (fault_taken_from (work l) l)
      is-taken =
          let e : fault_taken_from (work l) l ≡ after = ap (λ qs. fault_taken_from qs l) first.is in
          record { lists = subst (λ z. IsChanged s v z []) (sym e) changed; same = λ a. ap (λ z. owners a (owned z)) e ∙ same a }
