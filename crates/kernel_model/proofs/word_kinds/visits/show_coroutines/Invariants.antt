use Rattle.std.proofs.Common.{◌≡◌, ◌++◌, map}
use Rattle.kernel_lists.specs.TaskBlock.Lists.{coroutines_in}
use Rattle.kernel_model.specs.KernelRecord.KernelRanges.{words}
use Rattle.kernel_model.proofs.word_kinds.visits.show_coroutines.Given as goal

abbrev pub invariant-loop-c : goal.invariant-loop-c
invariant-loop-c g l =
    g.V.Visitor.shown l.fn.visitor l.visitor (map (λ c. words c 10) l.yielded) × (coroutines_in l.store l.t ≡ l.yielded ++ l.c-iterator)
