use Rattle.std.proofs.Common.{◌≡◌, ap, ◌∙◌}
use Rattle.instruction_set.specs.Instruction.{instruction}
use Rattle.kernel_model.specs.KernelRecord.ChangedStore.{HasKeeper}
use Rattle.kernel_model.specs.KernelRecord.Lists.{Lists}
use Rattle.kernel_model.specs.KernelRecord.Owned.{owned}
use Rattle.kernel_model.proofs.WordKinds.KnownWords.{addresses, store-of, tells-owned}
use Rattle.guest_turns.specs.Guarded.{is_owned}
use Rattle.guest_turns.proofs.GuardedLists.{holds-executed, marks-lists}
use Rattle.guest_turns.proofs.instructions.execute_guest.Goals as goal

pub execute_alone-requires-clause-guard : goal.execute_alone-requires-clause-guard
execute_alone-requires-clause-guard g c =
    let l = c.requires.keeper.0 in
    let k = c.requires.keeper.1 in
    g.met.Q.KindKeeper.may_be_asked c.args.kinds.now c.args.store.now (addresses (owned l)) l (tells-owned (g.Q.KindKeeper.tells c.args.kinds.now) l k.knows) (store-of c.args.store.now l k.lists) k.enough

-- the keeper marks what is owned
marks : (g : _) (c : goal.After-execute_alone g) (l : Lists) → HasKeeper c.args.store.now (g.Q.KindKeeper.tells c.args.kinds.now) (g.Q.KindKeeper.room c.args.kinds.now) l
    → g.Q.Guard.marks c.args.kinds.now c.args.store.now ≡ is_owned l
marks g c l k =
    marks-lists l _
    (λ a. g.met.Q.KindKeeper.marks_known c.args.kinds.now c.args.store.now (addresses (owned l)) l a (tells-owned (g.Q.KindKeeper.tells c.args.kinds.now) l k.knows) (store-of c.args.store.now l k.lists) k.enough)

pub returns-clause-outcome : goal.returns-clause-outcome
returns-clause-outcome g c = λ l k. c.execute_alone.ensures.outcome ∙ ap (λ m. (instruction m c.args.store.now c.args.regs.now).outcome) (marks g c l k)

pub returns-clause-words : goal.returns-clause-words
returns-clause-words g c = λ l k. c.execute_alone.ensures.words ∙ ap (λ m. (instruction m c.args.store.now c.args.regs.now).words) (marks g c l k)

pub returns-clause-regs : goal.returns-clause-regs
returns-clause-regs g c = λ l k. c.execute_alone.ensures.regs ∙ ap (λ m. (instruction m c.args.store.now c.args.regs.now).regs) (marks g c l k)

pub returns-clause-lists : goal.returns-clause-lists
returns-clause-lists g c = λ l k. holds-executed c.args.store.now c.execute_alone.new.store c.args.regs.now l k.lists (returns-clause-words g c l k)
