use Rattle.kernel_machine.proofs.RunningMachine.QuietParts.{before-ends, before-ticks, tick-next}
use Rattle.kernel_machine.proofs.running_machine.spans.before.Goals as goal

pub overflow_sub-result-2 : goal.overflow_sub-result-2
overflow_sub-result-2 c = before-ends c.args.parts.now c.requires.whole c.args.tick c.from.result c.from-2.result c.requires.later c.from.ensures c.from-2.ensures

pub returns-clause-later : goal.returns-clause-later
returns-clause-later c = before-ticks c.args.parts.now c.requires.whole c.args.tick c.from.result c.from-2.result c.requires.later c.from.ensures c.from-2.ensures

pub returns-clause-next : goal.returns-clause-next
returns-clause-next c = tick-next c.args.parts.now c.requires.whole c.args.tick c.from.result c.from-2.result c.requires.later c.from.ensures c.from-2.ensures
