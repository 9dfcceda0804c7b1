use Rattle.std.proofs.Common.{◌≡◌, ◌-◌, ◌≤◌, ap, arith, false, sym, subst, true, ◌∙◌}
use Rattle.byte_streams.specs.Pending.{Gathers, IsGathered}
use Rattle.byte_streams.proofs.GatheredTexts.{IsGathered-nothing}
use Rattle.tripos_machine.specs.State.{steps_of}
use Rattle.machine_ring.specs.Private.IdleRounds.{IsStill, left_after}
use Rattle.machine_ring.specs.Rounds.{Rounded, can_step}
use Rattle.machine_ring.proofs.IdleRounds.{rounds-stepped, rounds-waited}
use Rattle.machine_ring.proofs.idle.pass.Goals as goal

pub returns-then-not-can_step-clause-ring : goal.returns-then-not-can_step-clause-ring
returns-then-not-can_step-clause-ring g c =
    let x = c.args.left.now in
    let k = c.args.link.now in
    let s = c.args.right.now.state in
    let n = c.min-rounds.result in
    let idle = c.requires.idle n (omega (arith, c.min-rounds.ensures)) in
    let left = c.pass.ensures ∙ ap (λ m. left_after n m x) c.left_steps.ensures in
    let stays : can_step k.terms.right_steps s ≡ false = ap (λ m. can_step m s) (sym c.right_steps.ensures) ∙ sym c.can_step.ensures ∙ c.if-not-can_step.true in
    sym (ap (λ (y : Rounded). y.ring) (rounds-waited x c.pass.new.self k c.pass-then-not-can_step.new.self s n idle left c.pass-then-not-can_step.ensures c.requires.goes stays))

pub returns-then-not-can_step-clause-bytes : goal.returns-then-not-can_step-clause-bytes
returns-then-not-can_step-clause-bytes g c =
    let x = c.args.left.now in
    let k = c.args.link.now in
    let s = c.args.right.now.state in
    let n = c.min-rounds.result in
    let idle = c.requires.idle n (omega (arith, c.min-rounds.ensures)) in
    let left = c.pass.ensures ∙ ap (λ m. left_after n m x) c.left_steps.ensures in
    let stays : can_step k.terms.right_steps s ≡ false = ap (λ m. can_step m s) (sym c.right_steps.ensures) ∙ sym c.can_step.ensures ∙ c.if-not-can_step.true in
    subst (λ (y : Rounded). IsGathered (g.K.Sink.holds c.args.out.now) (g.K.Sink.holds c.args.out.now) c.args.pending.now c.args.pending.now y.shown)
    (sym (rounds-waited x c.pass.new.self k c.pass-then-not-can_step.new.self s n idle left c.pass-then-not-can_step.ensures c.requires.goes stays)) (IsGathered-nothing _ _)

pub pass-requires-2-clause-still : goal.pass-requires-2-clause-still
pass-requires-2-clause-still g c =
    let n = c.advance-taken.result in
    let idle = c.requires.idle n (omega (arith, c.advance-taken.ensures.most, c.min.ensures, c.min-rounds.ensures)) in
    subst (λ m. IsStill n m c.args.left.now.state) (sym c.left_steps-2.ensures) idle.still

pub returns-clause-ring : goal.returns-clause-ring
returns-clause-ring g c =
    let x = c.args.left.now in
    let k = c.args.link.now in
    let s = c.args.right.now.state in
    let n = c.advance-taken.result in
    let idle = c.requires.idle n (omega (arith, c.advance-taken.ensures.most, c.min.ensures, c.min-rounds.ensures)) in
    let left = c.pass-2.ensures ∙ ap (λ m. left_after n m x) c.left_steps-2.ensures in
    let can : can_step k.terms.right_steps s ≡ true = ap (λ m. can_step m s) (sym c.right_steps.ensures) ∙ sym c.can_step.ensures ∙ c.if-not-can_step.false in
    let few : n ≤ k.terms.right_steps - steps_of s = omega (arith, c.advance-taken.ensures.most, c.min.ensures, c.right_steps-2.ensures, c.steps.ensures) in
    sym (ap (λ (y : Rounded). y.ring) (rounds-stepped x c.pass-2.new.self k c.pass-3.new.self s n idle left c.pass-3.ensures c.advance-taken.new.self.state c.advance-taken.ensures.state can few c.advance-taken.ensures.last))

pub returns-clause-bytes : goal.returns-clause-bytes
returns-clause-bytes g c =
    let x = c.args.left.now in
    let k = c.args.link.now in
    let s = c.args.right.now.state in
    let n = c.advance-taken.result in
    let idle = c.requires.idle n (omega (arith, c.advance-taken.ensures.most, c.min.ensures, c.min-rounds.ensures)) in
    let left = c.pass-2.ensures ∙ ap (λ m. left_after n m x) c.left_steps-2.ensures in
    let can : can_step k.terms.right_steps s ≡ true = ap (λ m. can_step m s) (sym c.right_steps.ensures) ∙ sym c.can_step.ensures ∙ c.if-not-can_step.false in
    let few : n ≤ k.terms.right_steps - steps_of s = omega (arith, c.advance-taken.ensures.most, c.min.ensures, c.right_steps-2.ensures, c.steps.ensures) in
    let rounds = rounds-stepped x c.pass-2.new.self k c.pass-3.new.self s n idle left c.pass-3.ensures c.advance-taken.new.self.state c.advance-taken.ensures.state can few c.advance-taken.ensures.last in
    subst (λ l. Gathers (g.K.Sink.holds c.args.out.now) (g.K.Sink.holds c.gather.new.out) c.args.pending.now c.gather.new.pending l c.gather.result)
    (c.output.ensures ∙ c.advance-taken.ensures.output ∙ sym (ap (λ (y : Rounded). y.shown) rounds)) c.gather.ensures.text
