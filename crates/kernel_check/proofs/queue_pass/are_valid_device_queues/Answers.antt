use Rattle.std.proofs.Common.{◌∙◌, sym}
use Rattle.std.proofs.lemmas.Bool.{false≢true}
use Rattle.kernel_model.specs.KernelRecord.Recovered.{lists_in}
use Rattle.kernel_model.specs.KernelRecord.ValidQueues.Place.{Clock, Keyboard, Output}
use Rattle.kernel_check.proofs.ClaimedQueues.{clock-queue, keyboard-queue, output-queue}
use Rattle.kernel_check.proofs.QueuedPackets.{queue-at}
use Rattle.kernel_check.proofs.QueueRules.{clock-read, keyboard-read, output-read, read-at}
use Rattle.kernel_check.proofs.queue_pass.are_valid_device_queues.Goals as goal

pub are_valid_packets-requires-clause-queue : goal.are_valid_packets-requires-clause-queue
are_valid_packets-requires-clause-queue c = queue-at c.args.store.now c.address.result 105 c.address.ensures (clock-queue c.args.store.now c.requires.claimed)

pub returns-then-not-are_valid_packets : goal.returns-then-not-are_valid_packets
returns-then-not-are_valid_packets c = (
  λ t. absurd (false≢true t),
  λ h. sym c.if-not-are_valid_packets.true
      ∙ (read-at c.args.store.now Clock c.are_valid_packets.result c.address.result 105 (lists_in c.args.store.now).clock c.address.ensures (clock-read c.args.store.now) c.are_valid_packets.ensures).1 h.0,
)

pub are_valid_packets-requires-2-clause-queue : goal.are_valid_packets-requires-2-clause-queue
are_valid_packets-requires-2-clause-queue c = queue-at c.args.store.now c.address-2.result 106 c.address-2.ensures (keyboard-queue c.args.store.now c.requires.claimed)

pub returns-then-not-are_valid_packets-2 : goal.returns-then-not-are_valid_packets-2
returns-then-not-are_valid_packets-2 c = (
  λ t. absurd (false≢true t),
  λ h. sym c.if-not-are_valid_packets-2.true
      ∙ (read-at c.args.store.now Keyboard c.are_valid_packets-2.result c.address-2.result 106 (lists_in c.args.store.now).keyboard c.address-2.ensures (keyboard-read c.args.store.now) c.are_valid_packets-2.ensures).1 h.1,
)

pub are_valid_packets-requires-3-clause-queue : goal.are_valid_packets-requires-3-clause-queue
are_valid_packets-requires-3-clause-queue c = queue-at c.args.store.now c.address-3.result 107 c.address-3.ensures (output-queue c.args.store.now c.requires.claimed)

pub returns : goal.returns
returns c =
    let output = read-at c.args.store.now Output c.are_valid_packets-3.result c.address-3.result 107 (lists_in c.args.store.now).output c.address-3.ensures (output-read c.args.store.now) c.are_valid_packets-3.ensures in (
      λ t. (
        (read-at c.args.store.now Clock c.are_valid_packets.result c.address.result 105 (lists_in c.args.store.now).clock c.address.ensures (clock-read c.args.store.now) c.are_valid_packets.ensures).0
            c.if-not-are_valid_packets.false,
        (read-at c.args.store.now Keyboard c.are_valid_packets-2.result c.address-2.result 106 (lists_in c.args.store.now).keyboard c.address-2.ensures (keyboard-read c.args.store.now) c.are_valid_packets-2.ensures).0
            c.if-not-are_valid_packets-2.false,
        output.0 t,
      ),
      λ h. output.1 h.2,
    )
