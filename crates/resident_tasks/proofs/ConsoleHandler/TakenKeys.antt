-- What taking the key packet leaves.
use Rattle.std.proofs.Common.{◌≡◌, ◌≢◌, ℕ, ◌+◌, ◌<◌, Bool, true, Option, Some, None, Ok, List, [], ◌∷◌, get_or, set, refl, sym, ap, ◌∙◌, subst, arith, get_or-set_other, get_or-set_same, length}
use Rattle.std.specs.List.{AllByRecursion, range_with_len}
use Rattle.std.proofs.lemmas.Bool.{and_parts, eq-eqb, eqb-true, or_left}
use Rattle.word_store.specs.Arithmetic.{signed}
use Rattle.word_store.specs.Count.{times}
use Rattle.kernel_lists.specs.LinkedList.Places.{has}
use Rattle.word_store.proofs.Counts.{times-within}
use Rattle.kernel_lists.specs.OwnedWords.Exchange.{Exchange}
use Rattle.kernel_lists.specs.OwnedWords.Owned.{Holds, owners}
use Rattle.kernel_lists.specs.OwnedWords.Written.{IsWritten}
use Rattle.kernel_lists.proofs.OwnedWords.RowWords.{owners-row}
use Rattle.kernel_lists.specs.PacketQueue.Log.{Notes}
use Rattle.kernel_lists.specs.PacketQueue.Queue.{HasQueue, no_queue, queue_at}
use Rattle.kernel_lists.specs.PacketQueue.QueueWords.{QueuedPacket}
use Rattle.kernel_lists.specs.declared.packet_queue.events.KernelEvent.{KernelEvent}
use Rattle.kernel_lists.specs.declared.packet_queue.events.KernelEvent.TheVariants.{Taken}
use Rattle.kernel_model.specs.KernelRecord.ChangedStore.{IsChanged}
use Rattle.kernel_model.specs.KernelRecord.Changes.{with_key, with_queue}
use Rattle.kernel_model.specs.KernelRecord.HoldsLists.{HoldsLists}
use Rattle.kernel_model.specs.KernelRecord.Lists.{Lists, address_of_task, has_task}
use Rattle.kernel_model.specs.KernelRecord.NotedEvents.{NotesAll}
use Rattle.kernel_model.specs.KernelRecord.Owned.{owned}
use Rattle.kernel_model.specs.KernelRecord.Residents.{key_packet, key_words, keyboard}
use Rattle.kernel_model.specs.KernelRecord.Task.{queue_head}
use Rattle.kernel_model.specs.KernelRecord.ValidLists.{AreValid}
use Rattle.kernel_model.specs.KernelRecord.ValidQueues.{IsKeyPacket, IsValidPacket, is_key_packet}
use Rattle.kernel_model.specs.KernelRecord.ValidQueues.Place.{Work}
use Rattle.kernel_model.proofs.KernelRecord.NotedInTurn.{notes-one}
use Rattle.kernel_model.proofs.KernelRecord.PacketMoves.{unqueued-unowned}
use Rattle.kernel_model.proofs.KernelRecord.QueuePlaces.{valid-at-place}
use Rattle.kernel_model.proofs.KernelRecord.ResidentPackets.{key_unqueued-valid, owners-key}
use Rattle.kernel_calls.specs.CallAnswers.CallChange.{Leaves}
use Rattle.kernel_calls.specs.PacketCalls.Destinations.{queue_for}
use Rattle.kernel_calls.specs.PacketCalls.PacketMoves.{is_on_queue}
use Rattle.kernel_calls.specs.PacketCalls.QueueWords.{head_of, unqueued}
use Rattle.kernel_calls.specs.declared.packet_calls.queues.Queue.TheVariants as queues
use Rattle.kernel_calls.proofs.PacketCalls.Departure.{departed-size, departed-written, held-before, others-kept, owners-departed, packet-inside}
use Rattle.kernel_calls.proofs.PacketCalls.HeldPlaces.{has-at, valid-at}
use Rattle.kernel_calls.proofs.PacketCalls.PlaceWords.{keys-exchange}
use Rattle.resident_tasks.specs.ConsoleHandler.KeyPacket.{FindsKeys, StartsWithKeys, keys_taken, keys_taken_from}
use Rattle.resident_tasks.specs.ResidentRequests.Requests.{RunsResident, work}
use Rattle.resident_tasks.proofs.ResidentRequests.RunningResident.{resident-number, runs-work}

-- the key packet, and those behind it
record HasKeys (l : Lists) (ps : List QueuedPacket) : Type 0 where
  pub packet : QueuedPacket
  pub back : List QueuedPacket
  pub is : ps ≡ packet ∷ back
  pub key : is_key_packet l packet ≡ true

keys-first : (l : Lists) (ps : List QueuedPacket) → StartsWithKeys l ps → HasKeys l ps
keys-first l [] none = absurd none
keys-first l (p ∷ ps) e = record { packet = p; back = ps; is = refl; key = e }

no-words : (x : Option ℕ) → owners key_packet (key_words x) ≡ 0 → (a : ℕ) → owners a (key_words x) ≡ 0
no-words None e a = refl
no-words (Some res1) e a = absurd (omega (arith, e, owners-key key_packet res1, times-within key_packet key_packet 5 (omega arith) (omega arith)))

module _ (s : List ℕ) (l : Lists) (h : HoldsLists s l) (f : FindsKeys l) (t : ℕ) (at : t ≡ address_of_task l l.running) where
  abbrev there : has_task l.running l.tasks ≡ true
  there = f.runs.there

  first : HasKeys l (work l)
  first = keys-first l (work l) f.first

  abbrev q : QueuedPacket
  q = first.packet

  abbrev back : List QueuedPacket
  back = first.back

  residents : l.residents ≡ true
  residents = (and_parts l.residents _ first.key).0

  address : q.address ≡ key_packet
  address = eqb-true q.address key_packet (and_parts l.residents _ first.key).1

  valid-packet : IsValidPacket l (Work l.running) q
  valid-packet = (subst (AllByRecursion (IsValidPacket l (Work l.running))) first.is (valid-at-place l (Work l.running) h.valid there)).0

  keys : IsKeyPacket (Work l.running) q
  keys = valid-packet.key first.key

  abbrev m : Lists
  m = with_queue (Work l.running) back l

  abbrev after : Lists
  after = with_key (Some q.res1) m

  valid : AreValid after
  valid = key_unqueued-valid l (Work l.running) q [] back h.valid first.is first.key

  queue-is : queues.Work t ≡ queue_for l (Work l.running)
  queue-is = ap queues.Work at

  pub keys-queue : HasQueue s (queue_head t)
  keys-queue = subst (λ z. HasQueue s (head_of z)) (sym queue-is) (valid-at s l (Work l.running) h there)

  pub keys-packet : has key_packet (queue_at s (queue_head t)) ≡ true
  keys-packet =
      subst (λ z. has key_packet (queue_at s (head_of z)) ≡ true) (sym queue-is)
      (has-at s l (Work l.running) h there key_packet ∙ ap (is_on_queue key_packet) first.is ∙ or_left _ (is_on_queue key_packet back) (eq-eqb key_packet q.address (sym address)))

  -- without the key packet's words
  out : Exchange (owned m) (owned (with_key None m)) (key_words l.key) []
  out = keys-exchange m residents

  put : Exchange (owned after) (owned (with_key None m)) (key_words (Some q.res1)) []
  put = keys-exchange after residents

  unowned : owners key_packet (owned m) ≡ 0
  unowned = unqueued-unowned l (Work l.running) q [] back h.valid first.is key_packet (omega (arith, address)) (omega (arith, address))

  none-before : (a : ℕ) → owners a (key_words l.key) ≡ 0
  none-before = no-words l.key (omega (arith, unowned, out.first.count key_packet))

  keys-same : (a : ℕ) → owners a (owned after) ≡ owners a (owned l)
  keys-same a =
      omega (
        arith,
        out.first.count a,
        out.then'.count a,
        put.first.count a,
        put.then'.count a,
        none-before a,
        owners-key a q.res1,
        owners-departed s l (Work l.running) q [] back h first.is a,
        ap (λ z. times a (range_with_len z 5)) address,
      )

  module _ (v : List ℕ) (is_left : v ≡ unqueued s (queues.Work t) key_packet) where
    left : v ≡ unqueued s (queue_for l (Work l.running)) q.address
    left = is_left ∙ (λ i. unqueued s (queue-is i) (sym address i))

    parted : IsWritten s v (owned m) ((q.address, no_queue) ∷ [])
    parted = departed-written s l (Work l.running) q [] back h first.is v left

    long : length v ≡ length s
    long = departed-size s l (Work l.running) q [] back h first.is v left

    kept : (i : ℕ) → 0 < i → i < 5 → get_or v (key_packet + i) 0 ≡ get_or s (q.address + i) 0
    kept i low high =
        (λ k. get_or (left k) (sym address k + i) 0) ∙ others-kept s l (Work l.running) q [] back h first.is (q.address + i) (omega (arith, low)) (omega (arith, high))

    before : Holds s ((q.address + 1, q.sender) ∷ (q.address + 2, q.kind) ∷ (q.address + 3, q.res1) ∷ (q.address + 4, q.last) ∷ [])
    before = (let k = (held-before s l (Work l.running) q [] back h first.is).holds in (k.1.1.0, (k.1.1.1.0, (k.1.1.1.1.0, (k.1.1.1.1.1.0, tt)))))

    sender : get_or v (key_packet + 1) 0 ≡ q.sender
    sender = kept 1 (omega arith) (omega arith) ∙ before.0

    keys-answer : get_or v (key_packet + 3) 0 ≡ q.res1
    keys-answer = kept 3 (omega arith) (omega arith) ∙ before.1.1.0

    link : get_or v key_packet 0 ≡ no_queue
    link =
        parted.others key_packet unowned
        ∙ (ap (λ a. get_or (set s a no_queue) key_packet 0) address
        ∙ get_or-set_same s key_packet no_queue 0 (packet-inside s l (Work l.running) q [] back h first.is key_packet (omega (arith, address)) (omega (arith, address))))

    row : Holds v (key_words (Some q.res1))
    row = (link, (sender ∙ keys.place.1, (kept 2 (omega arith) (omega arith) ∙ (before.1.0 ∙ keys.kind), (keys-answer, (kept 4 (omega arith) (omega arith) ∙ (before.1.1.1.0 ∙ keys.last), tt)))))

    holds : Holds v (owned after)
    holds = put.first.closes v (put.then'.opens v (out.then'.closes v (out.first.opens v parted.holds).0 tt)).0 row

    other : (a : ℕ) → owners a (owned after) ≡ 0 → get_or v a 0 ≡ get_or s a 0
    other a none =
        let nobody : owners a (owned l) ≡ 0 = sym (keys-same a) ∙ none in
        let beside : a ≢ q.address = λ e. absurd (omega (arith, nobody, e, owners-departed s l (Work l.running) q [] back h first.is a, times-within a q.address 5 (omega (arith, e)) (omega (arith, e)))) in
        parted.others a (omega (arith, nobody, owners-departed s l (Work l.running) q [] back h first.is a)) ∙ get_or-set_other s q.address a no_queue 0 beside

    changed : IsChanged s v after []
    changed = record { lists = record { valid = valid; size = long ∙ h.size; holds = holds }; size = long; written = record { holds = holds; others = other } }

    pub keys-taken : (n : ℕ) → n ≡ get_or v (key_packet + 3) 0 → Leaves s v (Ok n) (keys_taken l)
    keys-taken n is_n = subst (λ ps. Leaves s v (Ok n) (keys_taken_from ps l)) (sym first.is) (record { lists = changed; answered = ap Ok (is_n ∙ keys-answer) })

    pub keys-noted : (id from : ℕ) → id ≡ get_or s (t + 1) 0 → from ≡ get_or v (key_packet + 1) 0 → (old now : Option (List KernelEvent)) (had has_now : Bool)
        → Notes old now had has_now (Taken (signed id) key_packet (signed from)) → NotesAll old now had has_now (keys_taken l).events
    keys-noted id from is_id is_from old now had has_now notes =
        subst (λ ps. NotesAll old now had has_now (keys_taken_from ps l).events) (sym first.is)
        (subst (λ e. NotesAll old now had has_now (e ∷ []))
        (λ i. Taken (signed ((is_id ∙ (ap (λ a. get_or s (a + 1) 0) at ∙ resident-number s l h f.runs)) i)) (sym address i) (signed ((is_from ∙ sender) i)))
        (notes-one old now had has_now _ notes))

  pub keys-owners : (a : ℕ) → owners a (owned (keys_taken l).lists) ≡ owners a (owned l)
  keys-owners a = subst (λ ps. owners a (owned (keys_taken_from ps l).lists) ≡ owners a (owned l)) (sym first.is) (keys-same a)

  pub keys-runs : RunsResident (keys_taken l).lists
  keys-runs =
      let r : RunsResident m = runs-work l l.running back f.runs in
      subst (λ ps. RunsResident (keys_taken_from ps l).lists) (sym first.is) (record { resident = r.resident; there = r.there; field = r.field })
