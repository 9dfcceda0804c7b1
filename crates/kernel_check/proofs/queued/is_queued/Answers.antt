use Rattle.std.proofs.Common.{◌≡◌, ◌∙◌, false, cond, ap, sym}
use Rattle.kernel_model.specs.KernelRecord.Lists.{is_queued}
use Rattle.kernel_model.specs.KernelRecord.Recovered.{lists_in}
use Rattle.kernel_check.proofs.ClaimedQueues.{clock-queue, keyboard-queue, output-queue, pending-queue}
use Rattle.kernel_check.proofs.QueuedPackets.{at-clock, at-keyboard, at-last, at-output, has-at, has_in, queue-at, residents-in}
use Rattle.kernel_check.proofs.queued.is_queued.Goals as goal

pub has_packet-requires : goal.has_packet-requires
has_packet-requires c = (queue-at c.args.store.now c.address.result 105 c.address.ensures (clock-queue c.args.store.now c.requires)).queue

pub returns-then-has_packet : goal.returns-then-has_packet
returns-then-has_packet c =
    at-clock c.args.store.now c.args.p (has-at c.args.store.now c.args.p c.address.result 105 c.has_packet.result _ c.address.ensures c.has_packet.ensures c.if-has_packet.true)

pub has_packet-requires-2 : goal.has_packet-requires-2
has_packet-requires-2 c = (queue-at c.args.store.now c.address-2.result 106 c.address-2.ensures (keyboard-queue c.args.store.now c.requires)).queue

pub returns-then-has_packet-2 : goal.returns-then-has_packet-2
returns-then-has_packet-2 c =
    at-keyboard c.args.store.now c.args.p (has-at c.args.store.now c.args.p c.address-2.result 106 c.has_packet-2.result _ c.address-2.ensures c.has_packet-2.ensures c.if-has_packet-2.true)

pub has_packet-requires-3 : goal.has_packet-requires-3
has_packet-requires-3 c = (queue-at c.args.store.now c.address-3.result 107 c.address-3.ensures (output-queue c.args.store.now c.requires)).queue

pub returns-then-has_packet-3 : goal.returns-then-has_packet-3
returns-then-has_packet-3 c =
    at-output c.args.store.now c.args.p (has-at c.args.store.now c.args.p c.address-3.result 107 c.has_packet-3.result _ c.address-3.ensures c.has_packet-3.ensures c.if-has_packet-3.true)

pub has_packet-requires-then-has_residents : goal.has_packet-requires-then-has_residents
has_packet-requires-then-has_residents c =
    (pending-queue c.args.store.now c.requires (sym (residents-in c.args.store.now) ∙ sym c.has_residents.ensures ∙ c.if-has_residents.true)).queue

pub returns-then-has_residents : goal.returns-then-has_residents
returns-then-has_residents c =
    let last : is_queued c.args.p (lists_in c.args.store.now) ≡ cond _ (has_in c.args.store.now 270 c.args.p) false =
    at-last c.args.store.now c.args.p (sym c.is_work.ensures ∙ c.if-is_work.false)
    (has-at c.args.store.now c.args.p c.address.result 105 c.has_packet.result _ c.address.ensures c.has_packet.ensures c.if-has_packet.false)
    (has-at c.args.store.now c.args.p c.address-2.result 106 c.has_packet-2.result _ c.address-2.ensures c.has_packet-2.ensures c.if-has_packet-2.false)
    (has-at c.args.store.now c.args.p c.address-3.result 107 c.has_packet-3.result _ c.address-3.ensures c.has_packet-3.ensures c.if-has_packet-3.false)
    in
    c.has_packet-then-has_residents.ensures
    ∙ sym (last ∙ ap (λ b. cond b (has_in c.args.store.now 270 c.args.p) false) (sym (residents-in c.args.store.now) ∙ sym c.has_residents.ensures ∙ c.if-has_residents.true))

pub returns-else-has_residents : goal.returns-else-has_residents
returns-else-has_residents c =
    let last : is_queued c.args.p (lists_in c.args.store.now) ≡ cond _ (has_in c.args.store.now 270 c.args.p) false =
    at-last c.args.store.now c.args.p (sym c.is_work.ensures ∙ c.if-is_work.false)
    (has-at c.args.store.now c.args.p c.address.result 105 c.has_packet.result _ c.address.ensures c.has_packet.ensures c.if-has_packet.false)
    (has-at c.args.store.now c.args.p c.address-2.result 106 c.has_packet-2.result _ c.address-2.ensures c.has_packet-2.ensures c.if-has_packet-2.false)
    (has-at c.args.store.now c.args.p c.address-3.result 107 c.has_packet-3.result _ c.address-3.ensures c.has_packet-3.ensures c.if-has_packet-3.false)
    in
    c.if-has_residents.false
    ∙ sym (last ∙ ap (λ b. cond b (has_in c.args.store.now 270 c.args.p) false) (sym (residents-in c.args.store.now) ∙ sym c.has_residents.ensures ∙ c.if-has_residents.false))
