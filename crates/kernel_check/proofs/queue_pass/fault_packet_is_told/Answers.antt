use Rattle.std.proofs.Common.{◌∙◌, refl, sym}
use Rattle.kernel_model.specs.KernelRecord.Lists.{has_task, is_queued}
use Rattle.kernel_model.specs.KernelRecord.Recovered.{lists_in}
use Rattle.kernel_check.proofs.QueueRules.{fault-absent, fault-free, fault-other, said-free, said-queued}
use Rattle.kernel_check.proofs.queue_pass.fault_packet_is_told.Goals as goal

pub returns-then-not-is_task : goal.returns-then-not-is_task
returns-then-not-is_task c = (λ t. fault-absent c.args.store.now (is_queued 310 (lists_in c.args.store.now)) (sym c.is_task.ensures ∙ c.if-not-is_task.true), λ h. refl)

pub returns-then-word-eq-NO_QUEUE : goal.returns-then-word-eq-NO_QUEUE
returns-then-word-eq-NO_QUEUE c =
    said-free (lists_in c.args.store.now).fault_packet_free (has_task 2 (lists_in c.args.store.now).tasks) c.is_queued-queued.result (is_queued 310 (lists_in c.args.store.now))
    (sym c.is_task.ensures ∙ c.if-not-is_task.false) c.is_queued-queued.ensures
    (fault-free c.args.store.now c.requires.tasks c.word.result c.word.ensures c.if-word-eq-NO_QUEUE.true (sym c.is_task.ensures ∙ c.if-not-is_task.false))

pub returns-else-word-eq-NO_QUEUE : goal.returns-else-word-eq-NO_QUEUE
returns-else-word-eq-NO_QUEUE c =
    said-queued (lists_in c.args.store.now).fault_packet_free (has_task 2 (lists_in c.args.store.now).tasks) c.is_queued-queued.result (is_queued 310 (lists_in c.args.store.now))
    (sym c.is_task.ensures ∙ c.if-not-is_task.false) c.is_queued-queued.ensures (fault-other c.args.store.now c.word.result c.word.ensures c.if-word-eq-NO_QUEUE.false)
