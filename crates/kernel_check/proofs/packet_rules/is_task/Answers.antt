use Rattle.std.proofs.Common.{arith}
use Rattle.kernel_check.proofs.TaskNumbers.{entry-tells, no-number}
use Rattle.kernel_check.proofs.packet_rules.is_task.Goals as goal

pub returns-then-id-eq0 : goal.returns-then-id-eq0
returns-then-id-eq0 c = no-number c.args.store.now c.requires c.args.id (λ n. omega (arith, n.0, c.if-id-eq0.true))

pub returns-then-id-highest_of : goal.returns-then-id-highest_of
returns-then-id-highest_of c = no-number c.args.store.now c.requires c.args.id (λ n. omega (arith, n.1, c.if-id-highest_of.true, c.highest_of.ensures.value))

pub returns : goal.returns
returns c = entry-tells c.args.store.now c.requires c.args.id c.word.result c.if-id-eq0.false (omega (arith, c.if-id-highest_of.false, c.highest_of.ensures.value)) c.word.ensures
