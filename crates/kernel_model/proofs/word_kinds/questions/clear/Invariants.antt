use Rattle.kernel_model.specs.KernelRecord.KernelRanges.{AreClear}
use Rattle.kernel_model.proofs.word_kinds.questions.clear.Given as goal

abbrev pub invariant-loop-b : goal.invariant-loop-b
invariant-loop-b g l = AreClear (g.Q.Guard.marks l.kinds l.store) l.a l.b
