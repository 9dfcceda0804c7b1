use Rattle.std.proofs.Common.{◌∙◌, ap}
use Rattle.kernel_model.specs.KernelRecord.Owned.{owned}
use Rattle.kernel_model.proofs.WordKinds.KnownWords.{addresses, store-of, tells-owned}
use Rattle.guest_turns.proofs.GuardedLists.{marks-lists}
use Rattle.guest_turns.proofs.instructions.is_kernel_word.Goals as goal

pub is_kernel-requires : goal.is_kernel-requires
is_kernel-requires g c =
    let l = c.requires.0 in
    let k = c.requires.1 in
    g.met.Q.KindKeeper.may_be_asked c.args.kinds.now c.args.store.now (addresses (owned l)) l (tells-owned (g.Q.KindKeeper.tells c.args.kinds.now) l k.knows) (store-of c.args.store.now l k.lists) k.enough

pub returns : goal.returns
returns g c = λ l k.
    c.is_kernel.ensures
    ∙ ap (λ m. m c.args.a)
    (marks-lists l _
    (λ a. g.met.Q.KindKeeper.marks_known c.args.kinds.now c.args.store.now (addresses (owned l)) l a (tells-owned (g.Q.KindKeeper.tells c.args.kinds.now) l k.knows) (store-of c.args.store.now l k.lists) k.enough))
