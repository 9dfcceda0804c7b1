-- The fault packet comes to the task that reports faults.
use Rattle.std.proofs.Common.{◌≡◌, ℕ, ◌<◌, ◌&&◌, ◌||◌, Bool, true, false, not, Option, Some, None, List, [], ◌∷◌, ◌++◌, map, cond, eqb, set, inl, inr, refl, sym, ap, ◌∙◌, subst, arith, append-nil}
use Rattle.std.specs.List.{AllByRecursion, list_any, range_with_len}
use Rattle.std.proofs.lemmas.Bool.{and_from, cases_eq, eq-eqb, false≢true, false_from_ne_true, ne_eqb}
use Rattle.std.proofs.lemmas.List.Folds.{list_any-append}
use Rattle.word_store.specs.Count.{IsApart, times}
use Rattle.word_store.proofs.Elements.{all-append}
use Rattle.word_store.proofs.Counts.{hit-other, hit-same, times-within}
use Rattle.kernel_lists.specs.OwnedWords.Exchange.{Exchange}
use Rattle.kernel_lists.specs.OwnedWords.Owned.{Holds, Pairs, owners, written}
use Rattle.kernel_lists.proofs.OwnedWords.Exchanges.{exchange-all, exchange-right}
use Rattle.kernel_lists.proofs.OwnedWords.RowWords.{owners-row}
use Rattle.kernel_lists.specs.PacketQueue.Queue.{CanQueue, HasQueue, no_queue, queue_at}
use Rattle.kernel_lists.specs.PacketQueue.QueueWords.{QueuedPacket, queue_words}
use Rattle.kernel_lists.specs.GetvecChain.BlockWords.{blocks_words}
use Rattle.kernel_lists.specs.HunkLoader.ModuleExchanges.{modules_words}
use Rattle.kernel_model.specs.KernelRecord.ChangedStore.{IsChanged}
use Rattle.kernel_model.specs.KernelRecord.Changes.{queue_of, with_fault_packet, with_queue, work_of}
use Rattle.kernel_model.specs.KernelRecord.HoldsLists.{HoldsLists}
use Rattle.kernel_model.specs.KernelRecord.Lists.{Lists, address_of_task, has_task, is_queued}
use Rattle.kernel_model.specs.KernelRecord.Owned.{device_words, owned, tasks_words}
use Rattle.kernel_model.specs.KernelRecord.Residents.{fault_packet, fault_packet_words, key_arguments, key_words, pending_head}
use Rattle.kernel_model.specs.KernelRecord.Root.{root_words}
use Rattle.kernel_model.specs.KernelRecord.Task.{Task, task_id}
use Rattle.kernel_model.specs.KernelRecord.ValidLists.{AreValid}
use Rattle.kernel_model.specs.KernelRecord.ValidQueues.{IsFaultPacket, IsValidPacket, Place}
use Rattle.kernel_model.specs.KernelRecord.ValidQueues.Place.{Clock, Keyboard, Output, Pending, Work}
use Rattle.kernel_model.proofs.KernelRecord.ChangedLists.{changed-none}
use Rattle.kernel_model.proofs.KernelRecord.QueuePlaces.{is_queued-here, is_queued-place, valid-at-place}
use Rattle.kernel_model.proofs.KernelRecord.QueuedPackets.{is_on_queue, is_queued-parts, work_packets}
use Rattle.kernel_model.proofs.KernelRecord.ReadQueues.{packets-some}
use Rattle.kernel_model.proofs.KernelRecord.ResidentPackets.{fault_queued-valid, owners-fault}
use Rattle.kernel_calls.specs.CallAnswers.Callers.{HasCaller}
use Rattle.kernel_calls.proofs.CallAnswers.FoundTask.{Finds, find-task, found-address}
use Rattle.kernel_lists.specs.LinkedList.Places.{has}
use Rattle.kernel_lists.specs.TaskBlock.TaskChain.{task_with, tasks_in}
use Rattle.kernel_calls.specs.declared.packet_calls.queues.Queue.{Queue}
use Rattle.kernel_calls.specs.declared.packet_calls.queues.Queue.TheVariants as queues
use Rattle.kernel_calls.proofs.PacketCalls.HeldPlaces.{has-at}
use Rattle.kernel_calls.specs.PacketCalls.Destinations.{queue_for}
use Rattle.kernel_calls.specs.PacketCalls.QueueWords.{due_in, enqueued, head_of, sent_words}
use Rattle.kernel_calls.proofs.PacketCalls.Arrival.{AreOfPacket}
use Rattle.kernel_calls.proofs.PacketCalls.PlacedPackets.{AreSet, end-changed, end-owners, end-packet, end-queue, fields-valid}
use Rattle.word_store.specs.Arithmetic.{signed}
use Rattle.kernel_lists.specs.PacketQueue.Log.{Notes}
use Rattle.kernel_lists.specs.declared.packet_queue.events.KernelEvent.{KernelEvent}
use Rattle.kernel_lists.specs.declared.packet_queue.events.KernelEvent.TheVariants.{Accepted}
use Rattle.kernel_model.specs.KernelRecord.NotedEvents.{NotesAll}
use Rattle.kernel_model.proofs.KernelRecord.NotedInTurn.{notes-one}
use Rattle.resident_tasks.specs.FaultReporter.Recorded.{OwnsSame, events_where, packet_from, sent, sent_events, sent_where}

-- ---- its words, while it is on no queue

-- all owned words, with these at the end of the residents'
abbrev around : Lists → Pairs → Pairs
around l L =
    root_words l (address_of_task l l.running)
    ++ (blocks_words l.blocks ++ (tasks_words l ++ (modules_words l.modules ++ (device_words l ++ (queue_words pending_head l.pending ++ (key_words l.key ++ (key_arguments ++ L)))))))

around-exchange : (l : Lists) (L M : Pairs) → Exchange (around l L) (around l M) L M
around-exchange l L M =
    exchange-right (root_words l (address_of_task l l.running)) _ _ _ _
    (exchange-right (blocks_words l.blocks) _ _ _ _
    (exchange-right (tasks_words l) _ _ _ _
    (exchange-right (modules_words l.modules) _ _ _ _
    (exchange-right (device_words l) _ _ _ _
    (exchange-right (queue_words pending_head l.pending) _ _ _ _
    (exchange-right (key_words l.key) _ _ _ _ (exchange-right key_arguments _ _ _ _ (exchange-all L M))))))))

-- they come to be owned, or go
pub packet-exchange : (l : Lists) (f : Bool) → l.residents ≡ true → Exchange (owned l) (owned (with_fault_packet f l)) (fault_packet_words l.fault_packet_free) (fault_packet_words f)
unfolding owned
packet-exchange l f has =
    subst
    (λ b.
    Exchange
    (root_words l (address_of_task l l.running)
    ++ (blocks_words l.blocks
    ++ (tasks_words l
    ++ (modules_words l.modules
    ++ (device_words l ++ cond b (queue_words pending_head l.pending ++ (key_words l.key ++ (key_arguments ++ fault_packet_words l.fault_packet_free))) [])))))
    (root_words l (address_of_task l l.running)
    ++ (blocks_words l.blocks
    ++ (tasks_words l ++ (modules_words l.modules ++ (device_words l ++ cond b (queue_words pending_head l.pending ++ (key_words l.key ++ (key_arguments ++ fault_packet_words f))) [])))))
    (fault_packet_words l.fault_packet_free) (fault_packet_words f))
    (sym has) (around-exchange l (fault_packet_words l.fault_packet_free) (fault_packet_words f))

-- ---- it is on the queue of that task, or on none

number : {i j : ℕ} → Work i ≡ Work j → i ≡ j
number e = cc

module _ (l : Lists) (there : has_task 2 l.tasks ≡ true) where
  -- it is nowhere else
  elsewhere : (at : Place) → (at ≡ Work 2 → ⊥) → (ps : List QueuedPacket) → AllByRecursion (IsValidPacket l at) ps → is_on_queue fault_packet ps ≡ false
  elsewhere at other [] all = refl
  elsewhere at other (p ∷ ps) all =
      ap (λ b. b || is_on_queue fault_packet ps)
      (false_from_ne_true (eqb p.address fault_packet) (λ e. (let f : IsFaultPacket at p = all.0.fault (and_from (has_task 2 l.tasks) (eqb p.address fault_packet) there e) in other f.place)))
      ∙ elsewhere at other ps all.1

  abbrev AreValidWork : List Task → Type 0
  AreValidWork ts = AllByRecursion (λ t. AllByRecursion (IsValidPacket l (Work t.id)) t.queue) ts

  other-work : (ts : List Task) → times 2 (map task_id ts) ≡ 0 → AreValidWork ts → is_on_queue fault_packet (work_packets ts) ≡ false
  other-work [] none all = refl
  other-work (t ∷ ts) none all =
      list_any-append (λ q. eqb q.address fault_packet) t.queue (work_packets ts)
      ∙ (λ i. elsewhere (Work t.id) (λ e. absurd (omega (arith, none, hit-same 2 t.id (sym (number e))))) t.queue all.0 i || other-work ts (omega (arith, none)) all.1 i)

  own-work : (ts : List Task) → IsApart (map task_id ts) → AreValidWork ts → is_on_queue fault_packet (work_of 2 ts) ≡ false → is_on_queue fault_packet (work_packets ts) ≡ false
  own-work [] apart all none = refl
  own-work (t ∷ ts) apart all none =
      list_any-append (λ q. eqb q.address fault_packet) t.queue (work_packets ts)
      ∙ elim (cases_eq t.id 2) [
        | inl e ↦
            let first : is_on_queue fault_packet t.queue ≡ false = sym (ap (λ b. is_on_queue fault_packet (cond b t.queue (work_of 2 ts))) (eq-eqb t.id 2 e)) ∙ none in
            λ i. first i || other-work ts (omega (arith, apart 2, hit-same 2 t.id (sym e))) all.1 i
        | inr ne ↦
            let rest : is_on_queue fault_packet (work_of 2 ts) ≡ false = sym (ap (λ b. is_on_queue fault_packet (cond b t.queue (work_of 2 ts))) (ne_eqb t.id 2 ne)) ∙ none in
            λ i. elsewhere (Work t.id) (λ e. ne (number e)) t.queue all.0 i || own-work ts (λ a. omega (arith, apart a)) all.1 rest i
      ]

  not-queued : AreValid l → is_on_queue fault_packet (work_of 2 l.tasks) ≡ false → is_queued fault_packet l ≡ false
  not-queued v none =
      is_queued-parts fault_packet l
      ∙ (λ i.
      own-work l.tasks v.tasks.distinct v.queues.tasks none i
      || (elsewhere Clock (λ e. cc) l.clock v.queues.clock i
      || (elsewhere Keyboard (λ e. cc) l.keyboard v.queues.keyboard i || (elsewhere Output (λ e. cc) l.output v.queues.output i || elsewhere Pending (λ e. cc) l.pending v.queues.pending i))))

  queued : AreValid l → is_on_queue fault_packet (work_of 2 l.tasks) ≡ true → is_queued fault_packet l ≡ true
  queued v some =
      sym (is_queued-place fault_packet l (Work 2) (work_of 2 l.tasks) v.tasks.distinct there refl) ∙ is_queued-here fault_packet l (Work 2) (work_of 2 l.tasks) v.tasks.distinct there some

  -- so it is free exactly where it is not on that queue
  pub free-is : (b : Bool) → AreValid l → b ≡ list_any (λ q. eqb fault_packet q.address) (work_of 2 l.tasks) → l.fault_packet_free ≡ not b
  free-is b v is = v.queues.fault ∙ (λ i. there i && not (same b (is ∙ turned (work_of 2 l.tasks)) i))
    where
      turn : (a b : ℕ) → eqb a b ≡ eqb b a
      turn a b = elim (cases_eq a b) [ inl e ↦ eq-eqb a b e ∙ sym (eq-eqb b a (sym e)) | inr ne ↦ ne_eqb a b ne ∙ sym (ne_eqb b a (λ e. ne (sym e))) ]

      turned : (ps : List QueuedPacket) → list_any (λ q. eqb fault_packet q.address) ps ≡ is_on_queue fault_packet ps
      turned [] = refl
      turned (p ∷ ps) = λ i. turn fault_packet p.address i || turned ps i

      same : (b : Bool) → b ≡ is_on_queue fault_packet (work_of 2 l.tasks) → is_queued fault_packet l ≡ b
      same true e = queued v (sym e)
      same false e = not-queued v (sym e)

-- ---- it comes there

-- nothing is sent where it waits already
pub not-sent : (s : List ℕ) (l : Lists) → HoldsLists s l → l.fault_packet_free ≡ false → OwnsSame s s l (sent l)
not-sent s l h e =
    record {
      lists = subst (λ b. IsChanged s s (sent_where b l) []) (sym e) (changed-none s l h);
      same = λ a. ap (λ b. owners a (owned (sent_where b l))) e;
    }

module _ (s : List ℕ) (l : Lists) (h : HoldsLists s l) (c : HasCaller l) (there : has_task 2 l.tasks ≡ true) (free : l.fault_packet_free ≡ true) where
  abbrev base : Lists
  base = with_fault_packet false l

  abbrev q : QueuedPacket
  q = packet_from l.running

  abbrev ps : List QueuedPacket
  ps = queue_of (Work 2) l

  abbrev ws : Pairs
  ws = (311, l.running) ∷ (312, 40) ∷ []

  abbrev kept : Pairs
  kept = (313, 0) ∷ (314, 0) ∷ []

  gone : Exchange (owned l) (owned base) (fault_packet_words l.fault_packet_free) []
  gone = packet-exchange l false (h.valid.tasks.reporter there)

  holds : Holds s (owned base)
  holds = gone.then'.closes s (gone.first.opens s h.holds).0 tt

  kept-there : Holds s kept
  kept-there = (let words : Holds s (fault_packet_words true) = subst (λ b. Holds s (fault_packet_words b)) free (gone.first.opens s h.holds).1 in (words.1.1.1.0, (words.1.1.1.1.0, tt)))

  valid : AreValid (with_queue (Work 2) (ps ++ q ∷ []) base)
  valid = fault_queued-valid l q ps [] h.valid (sym (append-nil ps)) free refl (record { place = refl; kind = refl; res1 = refl; last = refl }) c.there

  some : AllByRecursion (λ z. 0 < z.address) (ps ++ q ∷ [])
  some = all-append (λ z. 0 < z.address) ps (q ∷ []) (packets-some l (Work 2) ps (valid-at-place l (Work 2) h.valid there)) (omega arith, tt)

  own : AreOfPacket fault_packet ws
  own a more =
      elim (cases_eq a 311) [
        | inl e ↦ omega (arith, times-within a fault_packet 5 (omega (arith, e)) (omega (arith, e)))
        | inr ne ↦
            elim (cases_eq a 312) [
              | inl e ↦ omega (arith, times-within a fault_packet 5 (omega (arith, e)) (omega (arith, e)))
              | inr other ↦ absurd (omega (arith, more, hit-other a 311 ne, hit-other a 312 other))
            ]
      ]

  are_set : AreSet q ws kept
  are_set link =
      record {
        count = λ a. omega arith;
        opens = λ r k. ((k.1.1.1.1.0, (k.1.1.1.1.1.0, tt)), (k.0, (k.1.0, (k.1.1.0, (k.1.1.1.0, tt)))));
        closes = λ r j k. (k.0, (k.1.0, (k.1.1.0, (k.1.1.1.0, (j.0, (j.1.0, tt))))));
      }

  sent-is : sent l ≡ with_queue (Work 2) (ps ++ q ∷ []) base
  sent-is = ap (λ b. sent_where b l) free

  pub packet-queue : HasQueue (written ws s) (head_of (queue_for l (Work 2)))
  packet-queue = end-queue s base (Work 2) q ws kept holds h.size h.valid.tasks.distinct there valid some tt (fields-valid l h.valid) own are_set kept-there

  pub packet-comes : CanQueue (written ws s) (head_of (queue_for l (Work 2))) fault_packet
  packet-comes = end-packet s base (Work 2) q ws kept holds h.size h.valid.tasks.distinct there valid some tt (fields-valid l h.valid) own are_set kept-there

  pub is-sent : (v : List ℕ) (due : ℕ) → v ≡ enqueued (written ws s) (queue_for l (Work 2)) fault_packet due → OwnsSame s v l (sent l)
  is-sent v due is =
      record {
        lists =
            subst (λ m. IsChanged s v m []) (sym sent-is)
            (end-changed s base (Work 2) q ws kept holds h.size h.valid.tasks.distinct there valid some tt (fields-valid l h.valid) own are_set kept-there v due is);
        same = λ a.
            ap (λ m. owners a (owned m)) sent-is
            ∙ omega (
              arith,
              end-owners s base (Work 2) q ws kept holds h.size h.valid.tasks.distinct there valid some tt (fields-valid l h.valid) own are_set kept-there a,
              gone.first.count a,
              gone.then'.count a,
              owners-fault a,
              ap (λ b. owners a (fault_packet_words b)) free,
            );
      }

  -- its sender and its type are set first
  module _ (queue : Queue) (is_queue : queue ≡ queue_for l (Work 2)) (v : List ℕ) (sender : ℕ) (is_v : v ≡ set s 312 40) (is_sender : sender ≡ l.running) where
    words : set v 311 sender ≡ written ws s
    words = λ i. set (is_v i) 311 (is_sender i)

    pub send-queue : HasQueue (set v 311 sender) (head_of queue)
    send-queue = subst (λ w. HasQueue w (head_of queue)) (sym words) (subst (λ z. HasQueue (written ws s) (head_of z)) (sym is_queue) packet-queue)

    pub send-packet : CanQueue (set v 311 sender) (head_of queue) fault_packet
    send-packet = subst (λ w. CanQueue w (head_of queue) fault_packet) (sym words) (subst (λ z. CanQueue (written ws s) (head_of z) fault_packet) (sym is_queue) packet-comes)

    pub packet-sent : (w : List ℕ) → w ≡ sent_words v queue fault_packet sender → OwnsSame s w l (sent l)
    packet-sent w is = is-sent w (due_in v fault_packet) (is ∙ (λ i. enqueued (words i) (is_queue i) fault_packet (due_in v fault_packet)))

    pub packet-noted : (before now : Option (List KernelEvent)) (b d : Bool) → Notes before now b d (Accepted (signed 2) fault_packet (signed sender)) → NotesAll before now b d (sent_events l)
    packet-noted before now b d notes =
        subst (λ f. NotesAll before now b d (events_where f l)) (sym free)
        (subst (λ z. NotesAll before now b d (Accepted (signed 2) fault_packet (signed z) ∷ [])) is_sender (notes-one before now b d _ notes))

-- the task that reports faults, as it was found
pub reporter-queue : (s : List ℕ) (l : Lists) (a : ℕ) → HoldsLists s l → task_with s 2 (tasks_in s) ≡ Some a → queues.Work a ≡ queue_for l (Work 2)
reporter-queue s l a h e = ap queues.Work (sym (found-address l 2 a h.valid.tasks.distinct (subst (Finds 2 l.tasks) e (find-task s l 2 h))))

pub reporter-found : (s : List ℕ) (l : Lists) → HoldsLists s l → has_task 2 l.tasks ≡ true → task_with s 2 (tasks_in s) ≡ None → ⊥
reporter-found s l h has e = (let none : has_task 2 l.tasks ≡ false = subst (Finds 2 l.tasks) e (find-task s l 2 h) in false≢true (sym none ∙ has))

-- whether the packet waits, as its queue was searched
pub waits-is : (s : List ℕ) (l : Lists) (queue : Queue) (b : Bool) → HoldsLists s l → has_task 2 l.tasks ≡ true → queue ≡ queue_for l (Work 2) → b ≡ has fault_packet (queue_at s (head_of queue)) → l.fault_packet_free ≡ not b
waits-is s l queue b h there q e =
    free-is l there b h.valid (e ∙ ap (λ z. has fault_packet (queue_at s (head_of z))) q ∙ has-at s l (Work 2) h there fault_packet)
