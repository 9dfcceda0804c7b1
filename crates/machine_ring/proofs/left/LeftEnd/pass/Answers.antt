use Rattle.std.proofs.Common.{◌≡◌, ◌∙◌, ap, false, sym, true}
use Rattle.tripos_machine.specs.Step.{run}
use Rattle.machine_ring.specs.Rings.{Left}
use Rattle.machine_ring.specs.Rounds.{can_step}
use Rattle.machine_ring.proofs.IdleRounds.{left-passed, left-stays}
use Rattle.machine_ring.proofs.left.LeftEnd.pass.Goals as goal
use Rattle.kernel_machine.proofs.RunningMachine.RunParts.{no-front}

pub returns-then-not-can_step : goal.returns-then-not-can_step
returns-then-not-can_step c =
    let x = c.args.self.now in
    let stays : can_step c.args.most x.state ≡ false = ap (λ (y : Left). can_step c.args.most y.state) (sym c.self.view_is) ∙ sym c.can_step.ensures ∙ c.if-not-can_step.true in
    left-stays c.args.n c.args.most x c.requires.waiting stays

pub returns : goal.returns
returns c =
    let x = c.args.self.now in
    let can : can_step c.args.most x.state ≡ true = ap (λ (y : Left). can_step c.args.most y.state) (sym c.self.view_is) ∙ sym c.can_step.ensures ∙ c.if-not-can_step.false in
    let held = no-front c.self.inside.held.items _ (ap (λ (y : Left). y.waiting) c.self.view_is ∙ c.requires.waiting) in
    let state = c.take_quiet_steps.ensures.state ∙ ap (λ (y : Left). (run c.args.n y.state).state) c.self.view_is in
    left-passed c.args.n c.args.most x c.requires.waiting c.requires.still can c.self.inside.held.items _ _ held c.take_quiet_steps.ensures.output state
