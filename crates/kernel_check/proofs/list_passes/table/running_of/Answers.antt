use Rattle.std.proofs.Common.{◌∙◌}
use Rattle.kernel_check.proofs.ListPasses.TaskTable.{running-none, running-some}
use Rattle.kernel_check.proofs.list_passes.table.running_of.Goals as goal

pub returns-then-t-eq0 : goal.returns-then-t-eq0
returns-then-t-eq0 c = running-none c.args.store.now c.root-t.result c.root-t.ensures c.if-t-eq0.true

pub returns-else-t-eq0 : goal.returns-else-t-eq0
returns-else-t-eq0 c = c.field.ensures ∙ running-some c.args.store.now c.root-t.result c.root-t.ensures c.if-t-eq0.false
