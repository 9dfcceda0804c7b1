use Rattle.std.proofs.Common.{◌+◌, ◌∙◌, ap, arith}
use Rattle.kernel_machine.proofs.RunningMachine.QuietParts.{few-ticks-now, tick-word}
use Rattle.kernel_machine.proofs.running_machine.spans.next_tick.Goals as goal

pub overflow_add-result : goal.overflow_add-result
overflow_add-result c = omega (arith, c.root.ensures, tick-word c.args.parts.now c.requires, few-ticks-now c.args.parts.now c.requires)

pub returns : goal.returns
returns c = ap (λ n. n + 1) (c.root.ensures ∙ tick-word c.args.parts.now c.requires)
