use Rattle.std.proofs.Common.{◌-◌, take}
use Rattle.std.specs.List.{AllByRecursion}
use Rattle.hex.specs.Hex.{IsBytes}
use Rattle.saved_machine.proofs.image_print.numbers.know_files.Given as goal

abbrev pub invariant-loop-k : goal.invariant-loop-k
invariant-loop-k l = AllByRecursion (λ f. IsBytes f.bytes) (take (l.k - 1) l.disc.files)
