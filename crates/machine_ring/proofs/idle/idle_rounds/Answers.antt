use Rattle.std.proofs.Common.{◌∙◌, subst, sym}
use Rattle.machine_ring.specs.Private.IdleRounds.{IsStill}
use Rattle.machine_ring.proofs.IdleRounds.{idle-from}
use Rattle.machine_ring.proofs.idle.idle_rounds.Goals as goal

pub returns-clause-idle : goal.returns-clause-idle
returns-clause-idle c = λ n few some out.
    idle-from n c.args.left.now c.args.link.now (c.still_rounds.ensures.waiting some) (subst (λ m. IsStill n m c.args.left.now.state) c.left_steps.ensures (c.still_rounds.ensures.still n few some)) out
    (sym c.is_empty.ensures ∙ c.if-not-is_empty.false)
