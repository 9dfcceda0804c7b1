use Rattle.kernel_devices.proofs.FirstDue.{due-none, due-some}
use Rattle.kernel_devices.proofs.ticks.is_first_due.Goals as goal

pub returns-then-p-eq0 : goal.returns-then-p-eq0
returns-then-p-eq0 c = λ l h. due-none c.args.store.now l c.args.now h c.root-p.result c.root-p.ensures c.if-p-eq0.true

pub returns : goal.returns
returns c = λ l h. due-some c.args.store.now l c.args.now h c.root-p.result c.root-p.ensures c.if-p-eq0.false c.word_at.result c.word_at.ensures
