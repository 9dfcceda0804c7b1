use Rattle.std.proofs.Common.{◌+◌}
use Rattle.kernel_model.specs.KernelRecord.Owned.{owned}
use Rattle.kernel_model.proofs.WordKinds.KnownWords.{addresses, store-of, tells-owned}
use Rattle.kernel_model.proofs.WordKinds.OwnedMarks.{clear-unowned}
use Rattle.kernel_model.proofs.word_kinds.ownership.are_unowned.Goals as goal

pub clear-requires : goal.clear-requires
clear-requires g c =
    let l = c.requires.0 in
    let k = c.requires.1 in
    g.met.Q.KindKeeper.may_be_asked c.args.kinds.now c.args.store.now (addresses (owned l)) l (tells-owned (g.Q.KindKeeper.tells c.args.kinds.now) l k.knows) (store-of c.args.store.now l k.lists) k.enough

pub returns : goal.returns
returns g c = λ l k.
    let marked = clear-unowned (g.Q.Guard.marks c.args.kinds.now c.args.store.now) l c.args.a (c.args.a + c.args.n) k.lists.valid
    (λ a. g.met.Q.KindKeeper.marks_known c.args.kinds.now c.args.store.now (addresses (owned l)) l a (tells-owned (g.Q.KindKeeper.tells c.args.kinds.now) l k.knows) (store-of c.args.store.now l k.lists) k.enough)
    in
    (λ clear. marked.0 (c.clear.ensures.0 clear), λ unowned. c.clear.ensures.1 (marked.1 unowned))
