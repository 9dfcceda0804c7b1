use Rattle.std.proofs.Common.{◌≡◌, eqb}
use Rattle.std.specs.List.{list_any}
use Rattle.kernel_lists.specs.TaskBlock.TaskChain.{id_in}
use Rattle.kernel_model.specs.KernelRecord.Recovered.{has_task_in}
use Rattle.store_claims.proofs.list_claims.search.has_task.Given as goal

abbrev pub invariant-loop-t : goal.invariant-loop-t
invariant-loop-t l = has_task_in l.store l.id ≡ list_any (λ t. eqb (id_in l.store t) l.id) l.t-iterator
