-- How often an address is owned, where a queue is another.
use Rattle.std.proofs.Common.{◌≡◌, ℕ, ◌+◌, ◌<◌, ◌≤◌, List, [], ◌∷◌, map, sym, ap, subst, arith}
use Rattle.word_store.specs.Count.{IsApart, hit, times}
use Rattle.word_store.proofs.Counts.{range-apart, range-high, range-low}
use Rattle.std.specs.List.{range_with_len}
use Rattle.kernel_lists.specs.OwnedWords.Owned.{owners}
use Rattle.kernel_lists.proofs.OwnedWords.RowWords.{owners-row}
use Rattle.kernel_lists.specs.PacketQueue.QueueWords.{QueuedPacket, packet_words, queue_words}
use Rattle.kernel_model.specs.KernelRecord.Changes.{HasPlace, queue_of, with_queue, with_tasks}
use Rattle.kernel_model.specs.KernelRecord.Lists.{Lists}
use Rattle.kernel_model.specs.KernelRecord.Owned.{clock_head, device_words, keyboard_head, output_head, owned}
use Rattle.kernel_model.specs.KernelRecord.Residents.{fault_packet_words, key_arguments, key_words, pending_head, resident_words}
use Rattle.kernel_model.specs.KernelRecord.Task.{Task, task_id}
use Rattle.kernel_model.specs.KernelRecord.ValidQueues.{Place}
use Rattle.kernel_model.specs.KernelRecord.ValidQueues.Place.{Clock, Keyboard, Output, Pending, Work}
use Rattle.kernel_model.proofs.KernelRecord.OneTask.{owned-one_task}
use Rattle.kernel_model.proofs.KernelRecord.OwnerCounts.{owned-queues, owners-devices, owners-residents, packets_count, with_queues}
use Rattle.kernel_model.proofs.KernelRecord.TaskCounts.{owners-task_queue}
use Rattle.kernel_model.proofs.KernelRecord.WorkQueues.{WorkSplit, work-split}

-- a packet owns five words, each once
pub owners-packet : (a : ℕ) (p : QueuedPacket) (n : ℕ) → owners a (packet_words p n) ≡ times a (range_with_len p.address 5)
owners-packet a p n = ap (λ z. hit a p.address + z) (owners-row a p.address 1 (p.sender ∷ p.kind ∷ p.res1 ∷ p.last ∷ []))

pub packet-once : (a : ℕ) (p : QueuedPacket) (n : ℕ) → owners a (packet_words p n) ≤ 1
packet-once a p n = subst (λ z. z ≤ 1) (sym (owners-packet a p n)) (range-apart p.address 5 a)

pub packet-within : (a : ℕ) (p : QueuedPacket) (n : ℕ) → 0 < owners a (packet_words p n) → (p.address ≤ a) × (a < p.address + 5)
packet-within a p n some =
    let there : 0 < times a (range_with_len p.address 5) = subst (λ z. 0 < z) (owners-packet a p n) some in
    (range-low a p.address 5 there, range-high a p.address 5 there)

-- ---- a queue in place of another

pub owned-queue : (a : ℕ) (l : Lists) (at : Place) (ps : List QueuedPacket) → IsApart (map task_id l.tasks) → HasPlace l at
    → owners a (owned (with_queue at ps l)) + packets_count a (queue_of at l) ≡ owners a (owned l) + packets_count a ps
owned-queue a l (Work id) ps apart has =
    let r : WorkSplit id ps l.tasks = work-split id ps l.tasks apart has in
    let u : Task = record r.task { queue = ps } in
    subst (λ q. owners a (owned (with_queue (Work id) ps l)) + packets_count a q ≡ owners a (owned l) + packets_count a ps) (sym r.queue)
    (subst (λ z. owners a (owned (with_tasks z l)) + packets_count a r.task.queue ≡ owners a (owned l) + packets_count a ps) (sym r.becomes)
    (owned-one_task l r.front r.task u r.back r.whole a (packets_count a r.task.queue) (packets_count a ps) (owners-task_queue a l.version r.task ps)))
owned-queue a l Clock ps apart has =
    owned-queues a l (packets_count a l.clock) (packets_count a ps) ps l.keyboard l.output l.pending l.key l.fault_packet_free
    (first (owners a (device_words l)) (owners a (device_words (with_queues ps l.keyboard l.output l.pending l.key l.fault_packet_free l))) (hit a clock_head) (packets_count a l.clock) (packets_count a ps)
    (owners a (queue_words keyboard_head l.keyboard)) (owners a (queue_words output_head l.output)) (owners a (resident_words l))
    (owners-devices a l) (owners-devices a (with_queues ps l.keyboard l.output l.pending l.key l.fault_packet_free l)))
  where
    first : (d d' h q q' y z r : ℕ) → d ≡ (h + q) + (y + z) → d' ≡ (h + q') + (y + z) → (d' + r) + q ≡ (d + r) + q'
    first d d' h q q' y z r e f = omega arith
owned-queue a l Keyboard ps apart has =
    owned-queues a l (packets_count a l.keyboard) (packets_count a ps) l.clock ps l.output l.pending l.key l.fault_packet_free
    (middle (owners a (device_words l)) (owners a (device_words (with_queues l.clock ps l.output l.pending l.key l.fault_packet_free l))) (hit a keyboard_head) (packets_count a l.keyboard) (packets_count a ps)
    (owners a (queue_words clock_head l.clock)) (owners a (queue_words output_head l.output)) (owners a (resident_words l))
    (owners-devices a l) (owners-devices a (with_queues l.clock ps l.output l.pending l.key l.fault_packet_free l)))
  where
    middle : (d d' h q q' y z r : ℕ) → d ≡ y + ((h + q) + z) → d' ≡ y + ((h + q') + z) → (d' + r) + q ≡ (d + r) + q'
    middle d d' h q q' y z r e f = omega arith
owned-queue a l Output ps apart has =
    owned-queues a l (packets_count a l.output) (packets_count a ps) l.clock l.keyboard ps l.pending l.key l.fault_packet_free
    (last (owners a (device_words l)) (owners a (device_words (with_queues l.clock l.keyboard ps l.pending l.key l.fault_packet_free l))) (hit a output_head) (packets_count a l.output) (packets_count a ps)
    (owners a (queue_words clock_head l.clock)) (owners a (queue_words keyboard_head l.keyboard)) (owners a (resident_words l))
    (owners-devices a l) (owners-devices a (with_queues l.clock l.keyboard ps l.pending l.key l.fault_packet_free l)))
  where
    last : (d d' h q q' y z r : ℕ) → d ≡ y + (z + (h + q)) → d' ≡ y + (z + (h + q')) → (d' + r) + q ≡ (d + r) + q'
    last d d' h q q' y z r e f = omega arith
owned-queue a l Pending ps apart has =
    owned-queues a l (packets_count a l.pending) (packets_count a ps) l.clock l.keyboard l.output ps l.key l.fault_packet_free
    (resident (owners a (resident_words l)) (owners a (resident_words (with_queues l.clock l.keyboard l.output ps l.key l.fault_packet_free l))) (hit a pending_head) (packets_count a l.pending) (packets_count a ps)
    (owners a (key_words l.key) + (owners a key_arguments + owners a (fault_packet_words l.fault_packet_free))) (owners a (device_words l))
    (owners-residents a l has) (owners-residents a (with_queues l.clock l.keyboard l.output ps l.key l.fault_packet_free l) has))
  where
    resident : (f f' h q q' x d : ℕ) → f ≡ (h + q) + x → f' ≡ (h + q') + x → (d + f') + q ≡ (d + f) + q'
    resident f f' h q q' x d e g = omega arith
