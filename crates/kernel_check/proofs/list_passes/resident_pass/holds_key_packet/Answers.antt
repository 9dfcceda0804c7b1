use Rattle.std.proofs.Common.{refl}
use Rattle.kernel_check.proofs.ListPasses.FreePackets.{key-free, key-queued}
use Rattle.kernel_check.proofs.list_passes.resident_pass.holds_key_packet.Goals as goal

pub returns-then-word-ne-NO_QUEUE : goal.returns-then-word-ne-NO_QUEUE
returns-then-word-ne-NO_QUEUE c = (λ t. key-queued c.args.store.now c.word.result c.word.ensures c.if-word-ne-NO_QUEUE.true, λ h. refl)

pub returns : goal.returns
returns c = (
  λ t. (key-free c.args.store.now c.word.result c.requires.residents c.word.ensures c.if-word-ne-NO_QUEUE.false).0 (c.has_key_words.ensures.0 t),
  λ h. c.has_key_words.ensures.1 ((key-free c.args.store.now c.word.result c.requires.residents c.word.ensures c.if-word-ne-NO_QUEUE.false).1 h),
)
