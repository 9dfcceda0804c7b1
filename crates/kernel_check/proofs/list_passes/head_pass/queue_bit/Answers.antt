use Rattle.std.proofs.Common.{◌∙◌, sym}
use Rattle.kernel_check.proofs.ListPasses.HeadWords.{no-packets, some-packets}
use Rattle.kernel_check.proofs.list_passes.head_pass.queue_bit.Goals as goal

pub returns-then-field-eq0 : goal.returns-then-field-eq0
returns-then-field-eq0 c = no-packets c.args.store.now c.args.t (sym c.field.ensures ∙ c.if-field-eq0.true)

pub returns-else-field-eq0 : goal.returns-else-field-eq0
returns-else-field-eq0 c = some-packets c.args.store.now c.args.t c.requires.can (λ e. c.if-field-eq0.false (c.field.ensures ∙ e))
