use Rattle.std.proofs.Common.{◌≡◌}
use Rattle.kernel_lists.specs.TaskBlock.TaskChain.{tasks_in}
use Rattle.kernel_check.proofs.ListPasses.TaskTable.{address_in}
use Rattle.kernel_check.proofs.list_passes.table.address_of.Given as goal

abbrev pub invariant-loop-t : goal.invariant-loop-t
invariant-loop-t l = address_in l.store l.t-iterator l.id ≡ address_in l.store (tasks_in l.store) l.id
