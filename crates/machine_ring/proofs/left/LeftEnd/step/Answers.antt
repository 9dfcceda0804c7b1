use Rattle.std.proofs.Common.{◌≡◌, ◌≤◌, ◌++◌, ◌∙◌, ap, arith, drop, length, length-append, subst, sym}
use Rattle.circular_buffer.specs.Buffer.{buffer}
use Rattle.machine_ring.specs.Rings.{Left}
use Rattle.machine_ring.specs.Rounds.{after_step}
use Rattle.machine_ring.proofs.WaitingBytes.{left-stepped, rest-all}
use Rattle.machine_ring.proofs.left.LeftEnd.step.Goals as goal

pub returns : goal.returns
returns c =
    let x = c.self.inside in
    let few : length (x.held.items ++ drop x.taken x.machine.output) ≤ 8192 =
    subst (λ (y : Left). length y.waiting ≤ 8192) (sym c.self.view_is) (omega (arith, c.waiting.ensures.count, c.if-waiting-gt-MOST_WAITING.false)) in
    let held = c.hold.ensures ∙ ap (λ l. buffer (x.held.items ++ l) x.held.capacity) (rest-all x.taken c.output.result.now) ∙ ap (λ l. buffer (x.held.items ++ drop x.taken l) x.held.capacity) c.output.ensures in
    subst (λ (y : Left). record { state = c.step.new.self.state; waiting = c.hold.new.held.items ++ c.step.new.self.output } ≡ after_step c.args.most y) c.self.view_is
    (left-stepped c.args.most x.held c.hold.new.held x.machine.output x.taken x.machine.state c.step.new.self.state c.step.new.self.output
    few (sym c.can_step.ensures ∙ c.if-not-can_step.false) held c.step.ensures.state c.step.ensures.output)

pub hold-requires : goal.hold-requires
hold-requires c =
    let x = c.self.inside in
    let few : length (x.held.items ++ drop x.taken x.machine.output) ≤ 8192 =
    subst (λ (y : Left). length y.waiting ≤ 8192) (sym c.self.view_is) (omega (arith, c.waiting.ensures.count, c.if-waiting-gt-MOST_WAITING.false)) in
    let same = ap length (rest-all x.taken c.output.result.now ∙ ap (drop x.taken) c.output.ensures) in
    omega (arith, few, same, c.self.invariant.room, length-append x.held.items (drop x.taken x.machine.output))
