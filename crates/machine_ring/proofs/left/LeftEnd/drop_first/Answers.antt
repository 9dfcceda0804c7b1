use Rattle.std.proofs.Common.{◌≡◌, ◌+◌, ◌++◌, ◌∙◌, ap, drop, subst, sym}
use Rattle.std.specs.Prelude.{is_some}
use Rattle.machine_ring.specs.Rings.{Left}
use Rattle.machine_ring.proofs.WaitingBytes.{drop-waiting}
use Rattle.machine_ring.proofs.left.LeftEnd.drop_first.Goals as goal

pub returns-then-self-output-clause-waiting : goal.returns-then-self-output-clause-waiting
returns-then-self-output-clause-waiting c =
    let none = sym (ap is_some c.pop_front.ensures.value) ∙ sym c.is_some.ensures ∙ c.if-is_some.false in
    subst (λ (x : Left). c.pop_front.new.self.items ++ drop (c.self.inside.taken + 1) c.self.inside.machine.output ≡ drop 1 x.waiting) c.self.view_is
    (drop-waiting c.self.inside.held.items c.pop_front.new.self.items c.self.inside.machine.output c.self.inside.taken none (ap (λ b. b.items) c.pop_front.ensures.items))
