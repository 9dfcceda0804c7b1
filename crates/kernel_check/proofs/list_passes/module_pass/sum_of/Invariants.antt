use Rattle.std.proofs.Common.{◌≡◌, ◌*◌, ◌≤◌, take}
use Rattle.std.specs.Prelude.{sum}
use Rattle.kernel_check.proofs.list_passes.module_pass.sum_of.Given as goal

abbrev pub invariant-loop-w : goal.invariant-loop-w
invariant-loop-w l = record { value : l.total ≡ sum (take l.w-index l.words); most : l.total ≤ 4294967295 * l.w-index }
