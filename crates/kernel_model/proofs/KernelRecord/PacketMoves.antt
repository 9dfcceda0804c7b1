-- A packet comes into a queue, or goes out of one, and the lists stay valid.
use Rattle.std.proofs.Common.{◌≡◌, ℕ, ◌+◌, ◌≤◌, List, ◌∷◌, ◌++◌, eqb, false, sym, ap, ◌∙◌, subst, arith}
use Rattle.std.specs.List.{AllByRecursion}
use Rattle.word_store.proofs.Counts.{times-within}
use Rattle.kernel_lists.specs.OwnedWords.Owned.{owners}
use Rattle.kernel_lists.specs.PacketQueue.QueueWords.{QueuedPacket, packet_words}
use Rattle.kernel_model.specs.KernelRecord.Changes.{AreUnowned, HasPlace, KeepsOrder, queue_of, with_queue}
use Rattle.kernel_model.specs.KernelRecord.Lists.{Lists, has_task}
use Rattle.kernel_model.specs.KernelRecord.Owned.{owned}
use Rattle.kernel_model.specs.KernelRecord.Residents.{fault_packet, key_packet}
use Rattle.kernel_model.specs.KernelRecord.ValidLists.{AreValid}
use Rattle.kernel_model.specs.KernelRecord.ValidQueues.{IsValidPacket, Place, is_fault_packet, is_key_packet}
use Rattle.kernel_model.proofs.KernelRecord.AllThings.{all-beside, all-between, and-other, any-between}
use Rattle.kernel_model.proofs.KernelRecord.DataInside.{AreData-inside}
use Rattle.kernel_model.proofs.KernelRecord.OwnedPackets.{unowned-no_fault, unowned-no_key}
use Rattle.kernel_model.proofs.KernelRecord.OwnerCounts.{owners-packet_between, owns-fewer, owns-more, packets_count}
use Rattle.kernel_model.proofs.KernelRecord.QueueCounts.{owned-queue, owners-packet, packet-once, packet-within}
use Rattle.kernel_model.proofs.KernelRecord.QueuePlaces.{KeepsOrder-beside, place-order, place-there, queue-valid, valid-at-place, with_queue-size}
use Rattle.kernel_model.proofs.KernelRecord.QueuedPackets.{is_on_queue}

module _ (l : Lists) (at : Place) (p : QueuedPacket) (front back : List QueuedPacket) (v : AreValid l) where
  more : (a x y q : ℕ) → x + q ≡ y + packets_count a (front ++ p ∷ back) → q ≡ packets_count a (front ++ back) → x ≡ y + owners a (packet_words p 0)
  more a x y q e f = plain (packets_count a (front ++ p ∷ back)) (packets_count a (front ++ back)) (owners a (packet_words p 0)) e f (owners-packet_between a front p back)
    where
      plain : (r s w : ℕ) → x + q ≡ y + r → q ≡ s → r ≡ s + w → x ≡ y + w
      plain r s w e f g = omega arith

  fewer : (a x y q : ℕ) → x + q ≡ y + packets_count a (front ++ back) → q ≡ packets_count a (front ++ p ∷ back) → x ≤ y
  fewer a x y q e f = plain (packets_count a (front ++ p ∷ back)) (packets_count a (front ++ back)) (owners a (packet_words p 0)) e f (owners-packet_between a front p back)
    where
      plain : (r s w : ℕ) → x + q ≡ y + s → q ≡ r → r ≡ s + w → x ≤ y
      plain r s w e f g = omega arith

  pub queued-valid : HasPlace l at → queue_of at l ≡ front ++ back → IsValidPacket l at p → AreUnowned l p.address (p.address + 5) → KeepsOrder at (front ++ p ∷ back) → AreValid (with_queue at (front ++ p ∷ back) l)
  queued-valid has is valid-packet unowned order =
      queue-valid l at (front ++ p ∷ back) v has (all-between (IsValidPacket l at) front p back valid-packet (subst (AllByRecursion (IsValidPacket l at)) is (valid-at-place l at v has))) order
      (λ r. any-between (λ q. eqb q.address key_packet) front p back (and-other l.residents _ (unowned-no_key l p v none) r) ∙ ap (is_on_queue key_packet) (sym is))
      (λ r. any-between (λ q. eqb q.address fault_packet) front p back (and-other (has_task 2 l.tasks) _ (unowned-no_fault l p v none) r) ∙ ap (is_on_queue fault_packet) (sym is))
      (owns-more l (with_queue at (front ++ p ∷ back) l) (packet_words p 0) (with_queue-size at (front ++ p ∷ back) l)
      (λ a. more a _ _ (packets_count a (queue_of at l)) (owned-queue a l at (front ++ p ∷ back) v.tasks.distinct has) (ap (packets_count a) is))
      (λ a. packet-once a p 0)
      (λ a some. (let w = packet-within a p 0 some in (unowned a w.0 w.1, AreData-inside l p.address 5 a v.blocks valid-packet.lodged w.1)))
      v.owns)
    where
      none : owners p.address (owned l) ≡ 0
      none = unowned p.address (omega arith) (omega arith)

  pub unqueued-valid : queue_of at l ≡ front ++ p ∷ back → is_key_packet l p ≡ false → is_fault_packet l p ≡ false → AreValid (with_queue at (front ++ back) l)
  unqueued-valid is no_key no_fault =
      let has : HasPlace l at = place-there l at front p back v is in
      queue-valid l at (front ++ back) v has (all-beside (IsValidPacket l at) front p back (subst (AllByRecursion (IsValidPacket l at)) is (valid-at-place l at v has)))
      (KeepsOrder-beside at front p back (subst (KeepsOrder at) is (place-order l at v)))
      (λ r. sym (any-between (λ q. eqb q.address key_packet) front p back (and-other l.residents _ no_key r)) ∙ ap (is_on_queue key_packet) (sym is))
      (λ r. sym (any-between (λ q. eqb q.address fault_packet) front p back (and-other (has_task 2 l.tasks) _ no_fault r)) ∙ ap (is_on_queue fault_packet) (sym is))
      (owns-fewer l (with_queue at (front ++ back) l) (with_queue-size at (front ++ back) l)
      (λ a. fewer a _ _ (packets_count a (queue_of at l)) (owned-queue a l at (front ++ back) v.tasks.distinct has) (ap (packets_count a) is))
      v.owns)

  -- its words are nobody's then
  pub unqueued-unowned : queue_of at l ≡ front ++ p ∷ back → AreUnowned (with_queue at (front ++ back) l) p.address (p.address + 5)
  unqueued-unowned is a low high =
      plain (owners a (owned (with_queue at (front ++ back) l))) (owners a (owned l)) (packets_count a (queue_of at l)) (packets_count a (front ++ p ∷ back)) (packets_count a (front ++ back)) (owners a (packet_words p 0))
      (owned-queue a l at (front ++ back) v.tasks.distinct (place-there l at front p back v is)) (ap (packets_count a) is) (owners-packet_between a front p back)
      (owners-packet a p 0 ∙ times-within a p.address 5 low high) (v.owns.apart a)
    where
      plain : (m w q s t n : ℕ) → m + q ≡ w + t → q ≡ s → s ≡ t + n → n ≡ 1 → w ≤ 1 → m ≡ 0
      plain m w q s t n e f g one once = omega arith
