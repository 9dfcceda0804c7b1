use Rattle.kernel_check.proofs.ListPasses.TaskTable.{highest-one, highest-two}
use Rattle.kernel_check.proofs.list_passes.table.highest_of.Goals as goal

pub returns-then-root-eq2-clause-value : goal.returns-then-root-eq2-clause-value
returns-then-root-eq2-clause-value c = highest-two c.args.store.now c.root.result c.root.ensures c.if-root-eq2.true

pub returns-else-root-eq2-clause-value : goal.returns-else-root-eq2-clause-value
returns-else-root-eq2-clause-value c = highest-one c.args.store.now c.root.result c.root.ensures c.if-root-eq2.false
