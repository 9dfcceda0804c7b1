use Rattle.std.proofs.Common.{◌∙◌, ap}
use Rattle.instruction_set.specs.NextWrites.{next_writes}
use Rattle.kernel_model.specs.KernelRecord.Owned.{owned}
use Rattle.kernel_model.proofs.WordKinds.KnownWords.{addresses, store-of, tells-owned}
use Rattle.guest_turns.proofs.GuardedLists.{marks-lists}
use Rattle.guest_turns.proofs.instructions.guest_writes.Goals as goal

pub next_writes-requires-clause-guard : goal.next_writes-requires-clause-guard
next_writes-requires-clause-guard g c =
    let l = c.requires.keeper.0 in
    let k = c.requires.keeper.1 in
    g.met.Q.KindKeeper.may_be_asked c.args.kinds.now c.args.store.now (addresses (owned l)) l (tells-owned (g.Q.KindKeeper.tells c.args.kinds.now) l k.knows) (store-of c.args.store.now l k.lists) k.enough

pub returns : goal.returns
returns g c = λ l k.
    c.next_writes.ensures
    ∙ ap (λ m. next_writes m c.args.store.now c.args.regs)
    (marks-lists l _
    (λ a. g.met.Q.KindKeeper.marks_known c.args.kinds.now c.args.store.now (addresses (owned l)) l a (tells-owned (g.Q.KindKeeper.tells c.args.kinds.now) l k.knows) (store-of c.args.store.now l k.lists) k.enough))
