use Rattle.std.proofs.Common.{◌≡◌, ◌++◌, take}
use Rattle.std.specs.List.{flat_map}
use Rattle.lab_marks.specs.Plans.{shown}
use Rattle.lab_marks.proofs.plans.push_shown.Given as goal

abbrev pub invariant-loop-byte : goal.invariant-loop-byte
invariant-loop-byte l = l.plan.items ≡ l.fn.plan.items ++ flat_map shown (take l.byte-index l.bytes)
