use Rattle.std.proofs.Common.{◌∙◌, refl, sym}
use Rattle.std.specs.Prelude.{is_some}
use Rattle.kernel_model.specs.KernelRecord.Lists.{is_queued}
use Rattle.kernel_model.specs.KernelRecord.Recovered.{lists_in}
use Rattle.kernel_check.proofs.QueueRules.{key-absent, key-free, key-other, said-free, said-queued}
use Rattle.kernel_check.proofs.queue_pass.key_packet_is_told.Goals as goal

pub returns-then-not-has_residents : goal.returns-then-not-has_residents
returns-then-not-has_residents c = (λ t. key-absent c.args.store.now (is_queued 271 (lists_in c.args.store.now)) (sym c.has_residents.ensures ∙ c.if-not-has_residents.true), λ h. refl)

pub returns-then-word-eq-NO_QUEUE : goal.returns-then-word-eq-NO_QUEUE
returns-then-word-eq-NO_QUEUE c =
    said-free (is_some (lists_in c.args.store.now).key) (lists_in c.args.store.now).residents c.is_queued-queued.result (is_queued 271 (lists_in c.args.store.now))
    (sym c.has_residents.ensures ∙ c.if-not-has_residents.false) c.is_queued-queued.ensures
    (key-free c.args.store.now c.word.result c.word.ensures c.if-word-eq-NO_QUEUE.true (sym c.has_residents.ensures ∙ c.if-not-has_residents.false))

pub returns-else-word-eq-NO_QUEUE : goal.returns-else-word-eq-NO_QUEUE
returns-else-word-eq-NO_QUEUE c =
    said-queued (is_some (lists_in c.args.store.now).key) (lists_in c.args.store.now).residents c.is_queued-queued.result (is_queued 271 (lists_in c.args.store.now))
    (sym c.has_residents.ensures ∙ c.if-not-has_residents.false) c.is_queued-queued.ensures (key-other c.args.store.now c.word.result c.word.ensures c.if-word-eq-NO_QUEUE.false)
