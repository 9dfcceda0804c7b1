use Rattle.std.proofs.Common.{◌≡◌, ◌∷◌, ◌∙◌, sym, ap, arith, [], ◌+◌, ◌<◌, length}
use Rattle.kernel_lists.specs.LinkedList.Chain.{list_at}
use Rattle.kernel_lists.proofs.LinkedList.Walks.{walk-ends, walk-goes-on}
use Rattle.kernel_lists.proofs.linked_list.walk.NodesIterator.next.Goals as goal

pub returns-then-node-eq0-clause-steps : goal.returns-then-node-eq0-clause-steps
returns-then-node-eq0-clause-steps c =
    let none : c.args.self.now ≡ [] = sym c.self.view_is ∙ walk-ends _ _ _ (sym c.word-node.ensures ∙ c.if-node-eq0.true) in
    (none, none)

pub address_of-self-inside-requires : goal.address_of-self-inside-requires
address_of-self-inside-requires c = omega (arith, (walk-goes-on _ _ _ _ c.self.invariant c.word-node.ensures c.if-node-eq0.false).inside)

pub invariant_of-self : goal.invariant_of-self
invariant_of-self c = rw c.address_of-self-inside.ensures (walk-goes-on _ _ _ _ c.self.invariant c.word-node.ensures c.if-node-eq0.false).walk

pub returns-clause-steps : goal.returns-clause-steps
returns-clause-steps c =
    sym c.self.view_is ∙ rw c.address_of-self-inside.ensures (walk-goes-on _ _ _ _ c.self.invariant c.word-node.ensures c.if-node-eq0.false).list

pub returns-clause-goes : goal.returns-clause-goes
returns-clause-goes c =
    let all : c.args.self.now ≡ c.word-node.result ∷ list_at c.self.inside.store.now (λ p. p + c.self.inside.offset) c.address_of-self-inside.result
    = sym c.self.view_is ∙ rw c.address_of-self-inside.ensures (walk-goes-on _ _ _ _ c.self.invariant c.word-node.ensures c.if-node-eq0.false).list in
    let fewer : length (list_at c.self.inside.store.now (λ p. p + c.self.inside.offset) c.address_of-self-inside.result) < length c.args.self.now = omega (arith, ap length all) in
    record { on = λ f. (tt, f, fewer); keeps = tt; rests = λ f. tt }
