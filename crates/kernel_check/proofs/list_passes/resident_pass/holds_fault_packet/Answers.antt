use Rattle.std.proofs.Common.{◌∙◌, refl, sym}
use Rattle.kernel_check.proofs.ListPasses.FreePackets.{fault-absent, fault-free, fault-queued}
use Rattle.kernel_check.proofs.list_passes.resident_pass.holds_fault_packet.Goals as goal

pub returns-then-not-has_task : goal.returns-then-not-has_task
returns-then-not-has_task c = (λ t. fault-absent c.args.store.now (sym c.has_task.ensures ∙ c.if-not-has_task.true), λ h. refl)

pub returns-then-word-ne-NO_QUEUE : goal.returns-then-word-ne-NO_QUEUE
returns-then-word-ne-NO_QUEUE c = (λ t. fault-queued c.args.store.now c.word.result c.word.ensures c.if-word-ne-NO_QUEUE.true, λ h. refl)

pub returns : goal.returns
returns c = (
  λ t. (fault-free c.args.store.now c.word.result c.requires.residents (sym c.has_task.ensures ∙ c.if-not-has_task.false) c.word.ensures c.if-word-ne-NO_QUEUE.false).0 (c.has_fault_words.ensures.0 t),
  λ h. c.has_fault_words.ensures.1
      ((fault-free c.args.store.now c.word.result c.requires.residents (sym c.has_task.ensures ∙ c.if-not-has_task.false) c.word.ensures c.if-word-ne-NO_QUEUE.false).1 h),
)
