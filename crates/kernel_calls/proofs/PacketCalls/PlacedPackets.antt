-- A packet of which words are set comes into a queue: its link and the last one are written, the words that were set among
-- its own with them, and its other words are kept.
use Rattle.std.proofs.Common.{◌≡◌, ℕ, ◌+◌, ◌<◌, List, [], ◌∷◌, ◌++◌, map, sym, ap, ◌∙◌, subst, append-nil, length, arith}
use Rattle.std.specs.List.{AllByRecursion, range_with_len}
use Rattle.word_store.specs.Count.{IsApart, times}
use Rattle.kernel_lists.specs.OwnedWords.Exchange.{Splits}
use Rattle.kernel_lists.specs.OwnedWords.Owned.{Holds, Pairs, owners, written}
use Rattle.kernel_lists.specs.PacketQueue.Due.{with_due}
use Rattle.kernel_lists.specs.PacketQueue.Queue.{CanQueue, HasQueue}
use Rattle.kernel_lists.specs.PacketQueue.QueueWords.{DueExchange, HeldQueue, QueuedPacket, first_packet, link_behind, packet_words}
use Rattle.kernel_lists.proofs.PacketQueue.HeldQueues.{due-exchange, held-queue}
use Rattle.kernel_model.specs.KernelRecord.ChangedStore.{IsChanged}
use Rattle.kernel_model.specs.KernelRecord.Changes.{HasPlace, queue_of, with_queue}
use Rattle.kernel_model.specs.KernelRecord.HoldsLists.{HoldsLists}
use Rattle.kernel_model.specs.KernelRecord.Lists.{Lists}
use Rattle.kernel_model.specs.KernelRecord.Owned.{clock_head, owned}
use Rattle.kernel_model.specs.KernelRecord.Task.{task_id}
use Rattle.kernel_model.specs.KernelRecord.ValidLists.{AreValid}
use Rattle.kernel_model.specs.KernelRecord.ValidQueues.{Place}
use Rattle.kernel_model.specs.KernelRecord.ValidQueues.Place.{Clock}
use Rattle.kernel_model.specs.KernelRecord.ValidTasks.{IsField, IsTask}
use Rattle.kernel_model.proofs.KernelRecord.EachMember.{all-each}
use Rattle.kernel_model.proofs.KernelRecord.QueueCounts.{owners-packet}
use Rattle.kernel_calls.specs.PacketCalls.Destinations.{queue_for}
use Rattle.kernel_calls.specs.PacketCalls.PacketMoves.{arrived}
use Rattle.kernel_calls.specs.PacketCalls.QueueWords.{head_of, enqueued}
use Rattle.kernel_calls.proofs.PacketCalls.Arrival.{AreOfPacket, arrived-changed, can-queue, held, owners-arrived, state-held}
use Rattle.kernel_calls.proofs.PacketCalls.ArrivalWords.{TakesAtEnd, enqueued-end}
use Rattle.kernel_calls.proofs.PacketCalls.PlaceWords.{state_pairs}

-- the words that are set, with the two links, are all of the packet's but those that are kept
abbrev pub AreSet : QueuedPacket → Pairs → Pairs → Type 0
AreSet q ws kept = (link : ℕ) → Splits ((link, q.address) ∷ packet_words q 0) kept ((link, q.address) ∷ (q.address, 0) ∷ ws)

-- those of its sender and its results are, with its kind
pub results-set : (q : QueuedPacket) → AreSet q ((q.address + 4, q.last) ∷ (q.address + 3, q.res1) ∷ (q.address + 1, q.sender) ∷ []) ((q.address + 2, q.kind) ∷ [])
results-set q link =
    record {
      count = λ a. omega arith;
      opens = λ t k. ((k.1.1.1.0, tt), (k.0, (k.1.0, (k.1.1.1.1.1.0, (k.1.1.1.1.0, (k.1.1.0, tt))))));
      closes = λ t j k. (k.0, (k.1.0, (k.1.1.1.1.0, (j.0, (k.1.1.1.0, (k.1.1.0, tt))))));
    }

pub results-own : (q : QueuedPacket) → AreOfPacket q.address ((q.address + 4, q.last) ∷ (q.address + 3, q.res1) ∷ (q.address + 1, q.sender) ∷ [])
results-own q a some = omega (arith, some, owners-packet a q 0)

-- the fields of tasks
pub fields-valid : (l : Lists) → AreValid l → AllByRecursion (λ t. IsField t.field) l.tasks
fields-valid l v = all-each (IsTask l) (λ t. IsField t.field) (λ t i. i.field) l.tasks v.tasks.each

-- ---- at the end

module _ (s : List ℕ) (base : Lists) (at : Place) (q : QueuedPacket) (ws kept : Pairs)
    (holds : Holds s (owned base)) (long : length s ≡ base.size) (distinct : IsApart (map task_id base.tasks)) (has : HasPlace base at)
    (v : AreValid (with_queue at (queue_of at base ++ q ∷ []) base)) (some : AllByRecursion (λ z. 0 < z.address) (queue_of at base ++ q ∷ []))
    (end : TakesAtEnd at) (fields : AllByRecursion (λ t. IsField t.field) base.tasks) (own : AreOfPacket q.address ws) (are_set : AreSet q ws kept) (kept-held : Holds s kept) where
  abbrev ps : List QueuedPacket
  ps = queue_of at base

  whole : ps ≡ ps ++ []
  whole = sym (append-nil ps)

  queue-held : HeldQueue (written ws s) (head_of (queue_for base at)) ps
  queue-held = subst (HeldQueue (written ws s) (head_of (queue_for base at))) (append-nil ps) (held s base at q ps [] holds long distinct has whole v some ws own)

  pub end-queue : HasQueue (written ws s) (head_of (queue_for base at))
  end-queue = (held-queue (written ws s) (head_of (queue_for base at)) ps queue-held).valid

  pub end-packet : CanQueue (written ws s) (head_of (queue_for base at)) q.address
  end-packet = can-queue s base at q ps [] holds long distinct has whole v some ws own

  pub end-owners : (a : ℕ) → owners a (owned (with_queue at (ps ++ q ∷ []) base)) ≡ owners a (owned base) + times a (range_with_len q.address 5)
  end-owners = owners-arrived s base at q ps [] holds long distinct has whole v some

  pub end-changed : (t : List ℕ) (due : ℕ) → t ≡ enqueued (written ws s) (queue_for base at) q.address due → IsChanged s t (with_queue at (ps ++ q ∷ []) base) []
  end-changed t due is =
      arrived-changed s base at q ps [] holds long distinct has whole v some t
      ((link_behind (head_of (queue_for base at)) ps, q.address) ∷ (q.address, 0) ∷ []) ws kept (are_set (link_behind (head_of (queue_for base at)) ps)) kept-held
      (is
      ∙ enqueued-end (written ws s) base at ps q due end has fields queue-held
      (subst (λ z. Holds (written ws s) (state_pairs base at z)) (append-nil ps) (state-held s base at q ps [] holds long distinct has whole v some ws own)))

-- ---- at the clock

-- for every place that the packet may come to
module _ (s : List ℕ) (l : Lists) (q : QueuedPacket) (ws kept : Pairs) (h : HoldsLists s l)
    (v : (front back : List QueuedPacket) → l.clock ≡ front ++ back → arrived Clock q l.clock ≡ front ++ q ∷ back → AreValid (with_queue Clock (front ++ q ∷ back) l))
    (some : (front back : List QueuedPacket) → l.clock ≡ front ++ back → AllByRecursion (λ z. 0 < z.address) (front ++ q ∷ back))
    (own : AreOfPacket q.address ws) (kept-held : Holds s kept)
    (are_set : (link next : ℕ) → Splits ((link, q.address) ∷ packet_words q next) kept ((q.address + 4, q.last) ∷ (link, q.address) ∷ (q.address, next) ∷ ws))
    (clock : HeldQueue s clock_head l.clock) where
  -- where it comes in, by the store before words were set
  d : DueExchange s (with_due s clock_head q.address q.last) clock_head l.clock q
  d = due-exchange s clock_head l.clock q clock

  clock-held : HeldQueue (written ws s) clock_head l.clock
  clock-held =
      subst (HeldQueue (written ws s) clock_head) (sym d.is)
      (held s l Clock q d.front d.back h.holds h.size h.valid.tasks.distinct tt d.is (v d.front d.back d.is d.becomes) (some d.front d.back d.is) ws own)

  pub clock-queue : HasQueue (written ws s) clock_head
  clock-queue = (held-queue (written ws s) clock_head l.clock clock-held).valid

  pub clock-packet : CanQueue (written ws s) clock_head q.address
  clock-packet = can-queue s l Clock q d.front d.back h.holds h.size h.valid.tasks.distinct tt d.is (v d.front d.back d.is d.becomes) (some d.front d.back d.is) ws own

  pub clock-owners : (a : ℕ) → owners a (owned (with_queue Clock (arrived Clock q l.clock) l)) ≡ owners a (owned l) + times a (range_with_len q.address 5)
  clock-owners a =
      ap (λ z. owners a (owned (with_queue Clock z l))) d.becomes
      ∙ owners-arrived s l Clock q d.front d.back h.holds h.size h.valid.tasks.distinct tt d.is (v d.front d.back d.is d.becomes) (some d.front d.back d.is) a

  pub clock-changed : (t : List ℕ) → t ≡ enqueued (written ws s) (queue_for l Clock) q.address q.last → IsChanged s t (with_queue Clock (arrived Clock q l.clock) l) []
  clock-changed t is =
      let x : DueExchange (written ws s) (with_due (written ws s) clock_head q.address q.last) clock_head l.clock q = due-exchange (written ws s) clock_head l.clock q clock-held in
      subst (λ z. IsChanged s t (with_queue Clock z l) []) (sym x.becomes)
      (arrived-changed s l Clock q x.front x.back h.holds h.size h.valid.tasks.distinct tt x.is (v x.front x.back x.is x.becomes) (some x.front x.back x.is) t
      ((q.address + 4, q.last) ∷ (link_behind clock_head x.front, q.address) ∷ (q.address, first_packet x.back) ∷ []) ws kept
      (are_set (link_behind clock_head x.front) (first_packet x.back)) kept-held (is ∙ x.words.words))
