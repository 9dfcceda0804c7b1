use Rattle.kernel_check.proofs.ConsoleLine.{free-tells, queued-tells}
use Rattle.kernel_check.proofs.console_line.key_tells.Goals as goal

pub returns-then-word-eq-NO_QUEUE : goal.returns-then-word-eq-NO_QUEUE
returns-then-word-eq-NO_QUEUE c = free-tells c.args.store.now c.word.result c.args.finished c.requires c.word.ensures c.if-word-eq-NO_QUEUE.true

pub returns : goal.returns
returns c = queued-tells c.args.store.now c.word.result c.args.finished c.word.ensures c.if-word-eq-NO_QUEUE.false
