use Rattle.std.proofs.Common.{◌-◌, take}
use Rattle.std.specs.List.{AllByRecursion}
use Rattle.saved_machine.specs.ImagePrint.Numbers.{HoldsBytes}
use Rattle.saved_machine.proofs.image_print.numbers.know_pipes.Given as goal

abbrev pub invariant-loop-k : goal.invariant-loop-k
invariant-loop-k l = AllByRecursion HoldsBytes (take (l.k - 1) l.pipes)
