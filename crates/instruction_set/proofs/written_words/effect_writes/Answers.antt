use Rattle.std.proofs.Common.{sym}
use Rattle.instruction_set.proofs.WritesMade.{no-place, nowhere-none}
use Rattle.instruction_set.proofs.written_words.effect_writes.Goals as goal

pub returns-in_default : goal.returns-in_default
returns-in_default g c =
    let n = c.in_default in
    sym
    (nowhere-none (g.X.Guard.marks c.args.guard.now c.args.store.now) c.args.store.now c.args.regs c.args.i
    (no-place c.args.store.now c.args.regs c.args.i.operand c.args.i.target c.args.i.effect n.not-StoreP n.not-StoreG n.not-StoreG0 n.not-StorePk n.not-StoreTarget n.not-St n.not-StP n.not-Pbyt
    n.not-Xpbyt n.not-Call n.not-CallG))
