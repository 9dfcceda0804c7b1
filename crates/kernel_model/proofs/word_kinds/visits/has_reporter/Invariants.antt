use Rattle.std.proofs.Common.{◌≡◌, eqb}
use Rattle.std.specs.List.{list_any}
use Rattle.kernel_lists.specs.TaskBlock.TaskChain.{id_in}
use Rattle.kernel_model.specs.KernelRecord.KernelRanges.{has_reporter}
use Rattle.kernel_model.proofs.word_kinds.visits.has_reporter.Given as goal

abbrev pub invariant-loop-t : goal.invariant-loop-t
invariant-loop-t l = has_reporter l.store ≡ list_any (λ t. eqb (id_in l.store t) 2) l.t-iterator
