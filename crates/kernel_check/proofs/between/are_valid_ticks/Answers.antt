use Rattle.std.proofs.Common.{◌∙◌, arith}
use Rattle.kernel_check.proofs.RunningTask.{period-some, ticks-read}
use Rattle.kernel_check.proofs.between.are_valid_ticks.Goals as goal

pub nonzero_div-result : goal.nonzero_div-result
nonzero_div-result c = omega (arith, period-some c.args.store.now c.root.result c.requires c.root.ensures, c.from-period.ensures)

pub returns : goal.returns
returns c = ticks-read c.args.store.now c.args.steps c.from.result c.from-period.result (c.from.ensures ∙ c.root-2.ensures) (c.from-period.ensures ∙ c.root.ensures)
