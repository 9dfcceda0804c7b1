-- A packet that nobody owns is sent to a queue.
use Rattle.std.proofs.Common.{◌≡◌, ℕ, ◌+◌, ◌<◌, List, [], ◌∷◌, ◌++◌, get_or, set, inl, inr, refl, sym, ap, ◌∙◌, subst, arith, append-nil}
use Rattle.std.specs.List.{AllByRecursion, range_with_len}
use Rattle.std.proofs.lemmas.Bool.{cases_eq, false≢true}
use Rattle.word_store.specs.Count.{times}
use Rattle.word_store.proofs.Counts.{hit-other, times-within}
use Rattle.kernel_lists.specs.OwnedWords.Exchange.{Splits}
use Rattle.kernel_lists.specs.OwnedWords.Owned.{Pairs, owners}
use Rattle.kernel_lists.specs.PacketQueue.Queue.{CanQueue, HasQueue}
use Rattle.kernel_lists.specs.PacketQueue.QueueWords.{HeldQueue, QueuedPacket, packet_words}
use Rattle.kernel_model.specs.KernelRecord.ChangedStore.{IsChanged}
use Rattle.kernel_model.specs.KernelRecord.Changes.{AreUnowned, HasPlace, KeepsOrder, queue_of, with_queue}
use Rattle.kernel_model.specs.KernelRecord.HoldsLists.{HoldsLists}
use Rattle.kernel_model.specs.KernelRecord.Lists.{Lists}
use Rattle.kernel_model.specs.KernelRecord.Owned.{clock_head, owned}
use Rattle.kernel_model.specs.KernelRecord.ValidBlocks.{AreData}
use Rattle.kernel_model.specs.KernelRecord.ValidLists.{AreValid}
use Rattle.kernel_model.specs.KernelRecord.ValidQueues.{HasSender, IsValidPacket, NeverFall, Place}
use Rattle.kernel_model.specs.KernelRecord.ValidQueues.Place.{Clock, Keyboard, Output, Pending, Work}
use Rattle.kernel_model.specs.KernelRecord.ValidTasks.{IsField}
use Rattle.kernel_model.proofs.KernelRecord.AllThings.{all-between}
use Rattle.kernel_model.proofs.KernelRecord.OwnedPackets.{unowned-no_fault, unowned-no_key}
use Rattle.kernel_model.proofs.KernelRecord.PacketMoves.{queued-valid}
use Rattle.kernel_model.proofs.KernelRecord.QueuePlaces.{valid-at-place}
use Rattle.kernel_model.proofs.KernelRecord.ReadQueues.{packets-some}
use Rattle.kernel_calls.specs.PacketCalls.Destinations.{queue_for}
use Rattle.kernel_calls.specs.PacketCalls.PacketMoves.{arrived, packet_at, sent_packet, with_arrived}
use Rattle.kernel_calls.specs.PacketCalls.QueueWords.{due_in, due_tick, head_of, enqueued, sent_words}
use Rattle.kernel_calls.proofs.PacketCalls.Arrival.{AreOfPacket}
use Rattle.kernel_calls.proofs.PacketCalls.ArrivalWords.{TakesAtEnd}
use Rattle.kernel_calls.proofs.PacketCalls.DueOrder.{falls-inserted}
use Rattle.kernel_calls.proofs.PacketCalls.HeldPlaces.{held-at}
use Rattle.kernel_calls.proofs.PacketCalls.PlacedPackets.{AreSet, clock-changed, clock-owners, clock-packet, clock-queue, end-changed, end-owners, end-packet, end-queue, fields-valid}

-- one of the five words
pub word-within : (p i w : ℕ) → i < 5 → (a : ℕ) → 0 < owners a ((p + i, w) ∷ []) → 0 < times a (range_with_len p 5)
word-within p i w low a some =
    elim (cases_eq a (p + i)) [
      | inl e ↦ omega (arith, times-within a p 5 (omega (arith, e)) (omega (arith, e, low)))
      | inr ne ↦ absurd (omega (arith, some, hit-other a (p + i) ne))
    ]

pub end-keeps : (at : Place) (ps : List QueuedPacket) → TakesAtEnd at → KeepsOrder at ps
end-keeps (Work id) ps end = tt
end-keeps Clock ps end = absurd end
end-keeps Keyboard ps end = tt
end-keeps Output ps end = tt
end-keeps Pending ps end = tt

pub arrived-end : (at : Place) (q : QueuedPacket) (ps : List QueuedPacket) → TakesAtEnd at → arrived at q ps ≡ ps ++ q ∷ []
arrived-end (Work id) q ps end = refl
arrived-end Clock q ps end = absurd end
arrived-end Keyboard q ps end = refl
arrived-end Output q ps end = refl
arrived-end Pending q ps end = refl

pub sent-end : (s : List ℕ) (l : Lists) (at : Place) (p sender : ℕ) → TakesAtEnd at → sent_packet s l at p sender ≡ record (packet_at s p) { sender = sender }
sent-end s l (Work id) p sender end = refl
sent-end s l Clock p sender end = absurd end
sent-end s l Keyboard p sender end = refl
sent-end s l Output p sender end = refl
sent-end s l Pending p sender end = refl

-- a packet at the end, of which its sender was set
pub sender-set : (s : List ℕ) (p sender : ℕ)
    → AreSet (record (packet_at s p) { sender = sender }) ((p + 1, sender) ∷ []) ((p + 2, get_or s (p + 2) 0) ∷ (p + 3, get_or s (p + 3) 0) ∷ (p + 4, get_or s (p + 4) 0) ∷ [])
sender-set s p sender link =
    record {
      count = λ a. omega arith;
      opens = λ r k. ((k.1.1.1.0, (k.1.1.1.1.0, (k.1.1.1.1.1.0, tt))), (k.0, (k.1.0, (k.1.1.0, tt))));
      closes = λ r j k. (k.0, (k.1.0, (k.1.1.0, (j.0, (j.1.0, (j.1.1.0, tt))))));
    }

module _ (s : List ℕ) (l : Lists) (at : Place) (q : QueuedPacket) (h : HoldsLists s l) (has : HasPlace l at) (lodged : AreData l.blocks q.address 5)
    (plain : AreUnowned l q.address (q.address + 5)) (sender : HasSender l at q.sender) where
  unowned : owners q.address (owned l) ≡ 0
  unowned = plain q.address (omega arith) (omega arith)

  valid-packet : IsValidPacket l at q
  valid-packet =
      record {
        lodged = lodged;
        key = λ e. absurd (false≢true (sym (unowned-no_key l q h.valid unowned) ∙ e));
        fault = λ e. absurd (false≢true (sym (unowned-no_fault l q h.valid unowned) ∙ e));
        sender = λ _. sender;
      }

  pub comes-valid : (front back : List QueuedPacket) → queue_of at l ≡ front ++ back → KeepsOrder at (front ++ q ∷ back) → AreValid (with_queue at (front ++ q ∷ back) l)
  comes-valid front back is order = queued-valid l at q front back h.valid has is valid-packet plain order

  pub comes-some : (front back : List QueuedPacket) → queue_of at l ≡ front ++ back → AllByRecursion (λ z. 0 < z.address) (front ++ q ∷ back)
  comes-some front back is =
      packets-some l at (front ++ q ∷ back) (all-between (IsValidPacket l at) front q back valid-packet (subst (AllByRecursion (IsValidPacket l at)) is (valid-at-place l at h.valid has)))

-- ---- what such a packet needs, and what it leaves

pub record Sent (s : List ℕ) (l : Lists) (at : Place) (p sender : ℕ) : Type 0 where
  pub queue : HasQueue (set s (p + 1) sender) (head_of (queue_for l at))
  pub packet : CanQueue (set s (p + 1) sender) (head_of (queue_for l at)) p
  pub changed : (t : List ℕ) → t ≡ sent_words s (queue_for l at) p sender → IsChanged s t (with_arrived at (sent_packet s l at p sender) l) []
  pub more : (a : ℕ) → owners a (owned (with_arrived at (sent_packet s l at p sender) l)) ≡ owners a (owned l) + times a (range_with_len p 5)

module _ (s : List ℕ) (l : Lists) (p sender : ℕ) (h : HoldsLists s l) (lodged : AreData l.blocks p 5) (plain : AreUnowned l p (p + 5)) where
  sent-at_end : (at : Place) → HasPlace l at → HasSender l at sender → TakesAtEnd at → Sent s l at p sender
  sent-at_end at has from end =
      let q : QueuedPacket = record (packet_at s p) { sender = sender } in
      let ps : List QueuedPacket = queue_of at l in
      let is : ps ≡ ps ++ [] = sym (append-nil ps) in
      let ws : Pairs = (p + 1, sender) ∷ [] in
      let kept : Pairs = (p + 2, get_or s (p + 2) 0) ∷ (p + 3, get_or s (p + 3) 0) ∷ (p + 4, get_or s (p + 4) 0) ∷ [] in
      let v : AreValid (with_queue at (ps ++ q ∷ []) l) = comes-valid s l at q h has lodged plain from ps [] is (end-keeps at (ps ++ q ∷ []) end) in
      let some : AllByRecursion (λ z. 0 < z.address) (ps ++ q ∷ []) = comes-some s l at q h has lodged plain from ps [] is in
      let fields : AllByRecursion (λ t. IsField t.field) l.tasks = fields-valid l h.valid in
      let own : AreOfPacket p ws = word-within p 1 sender (omega arith) in
      let becomes : with_arrived at (sent_packet s l at p sender) l ≡ with_queue at (ps ++ q ∷ []) l =
      ap (λ z. with_arrived at z l) (sent-end s l at p sender end) ∙ ap (λ z. with_queue at z l) (arrived-end at q ps end)
      in
      record {
        queue = end-queue s l at q ws kept h.holds h.size h.valid.tasks.distinct has v some end fields own (sender-set s p sender) (refl, (refl, (refl, tt)));
        packet = end-packet s l at q ws kept h.holds h.size h.valid.tasks.distinct has v some end fields own (sender-set s p sender) (refl, (refl, (refl, tt)));
        changed = λ t is_t.
            subst (λ m. IsChanged s t m []) (sym becomes)
            (end-changed s l at q ws kept h.holds h.size h.valid.tasks.distinct has v some end fields own (sender-set s p sender) (refl, (refl, (refl, tt))) t (due_in s p) is_t);
        more = λ a.
            ap (λ m. owners a (owned m)) becomes
            ∙ end-owners s l at q ws kept h.holds h.size h.valid.tasks.distinct has v some end fields own (sender-set s p sender) (refl, (refl, (refl, tt))) a;
      }

  -- the tick that the store has is that of the lists
  sent-to_clock : get_or s 108 0 ≡ l.tick → HasSender l Clock sender → Sent s l Clock p sender
  sent-to_clock tick from =
      let q : QueuedPacket = sent_packet s l Clock p sender in
      let ws : Pairs = (p + 1, sender) ∷ [] in
      let kept : Pairs = (p + 2, get_or s (p + 2) 0) ∷ (p + 3, get_or s (p + 3) 0) ∷ [] in
      let v : (front back : List QueuedPacket) → l.clock ≡ front ++ back → arrived Clock q l.clock ≡ front ++ q ∷ back → AreValid (with_queue Clock (front ++ q ∷ back) l) =
      λ front back is becomes. comes-valid s l Clock q h tt lodged plain from front back is (subst NeverFall becomes (falls-inserted q l.clock h.valid.queues.due))
      in
      let some : (front back : List QueuedPacket) → l.clock ≡ front ++ back → AllByRecursion (λ z. 0 < z.address) (front ++ q ∷ back) = comes-some s l Clock q h tt lodged plain from in
      let own : AreOfPacket p ws = word-within p 1 sender (omega arith) in
      let set_words : (link next : ℕ) → Splits ((link, p) ∷ packet_words q next) kept ((p + 4, q.last) ∷ (link, p) ∷ (p, next) ∷ ws) =
      λ link next.
      record {
        count = λ a. omega arith;
        opens = λ r k. ((k.1.1.1.0, (k.1.1.1.1.0, tt)), (k.1.1.1.1.1.0, (k.0, (k.1.0, (k.1.1.0, tt)))));
        closes = λ r j k. (k.1.0, (k.1.1.0, (k.1.1.1.0, (j.0, (j.1.0, (k.0, tt))))));
      }
      in
      let clock : HeldQueue s clock_head l.clock = held-at s l Clock h tt in
      record {
        queue = clock-queue s l q ws kept h v some own (refl, (refl, tt)) set_words clock;
        packet = clock-packet s l q ws kept h v some own (refl, (refl, tt)) set_words clock;
        changed = λ t is.
            clock-changed s l q ws kept h v some own (refl, (refl, tt)) set_words clock t
            (is ∙ ap (λ n. enqueued (set s (p + 1) sender) (queue_for l Clock) p (due_tick n (get_or s (p + 5) 0))) tick);
        more = clock-owners s l q ws kept h v some own (refl, (refl, tt)) set_words clock;
      }

  pub sent-packet : get_or s 108 0 ≡ l.tick → (at : Place) → HasPlace l at → HasSender l at sender → Sent s l at p sender
  sent-packet tick (Work id) has from = sent-at_end (Work id) has from tt
  sent-packet tick Clock has from = sent-to_clock tick from
  sent-packet tick Keyboard has from = sent-at_end Keyboard has from tt
  sent-packet tick Output has from = sent-at_end Output has from tt
  sent-packet tick Pending has from = sent-at_end Pending has from tt
