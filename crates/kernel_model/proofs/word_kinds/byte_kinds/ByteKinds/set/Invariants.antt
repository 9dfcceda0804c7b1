use Rattle.std.proofs.Common.{◌-◌}
use Rattle.kernel_model.specs.WordKinds.ByteMap.{IsSet}
use Rattle.kernel_model.proofs.word_kinds.byte_kinds.ByteKinds.set.Given as goal

abbrev pub invariant-loop-a : goal.invariant-loop-a
invariant-loop-a l = IsSet l.fn.self l.self-inside.marks.items l.first (l.a - l.first) l.value
