use Rattle.std.proofs.Common.{◌∙◌, ◌+◌, ◌-◌, ap, arith, refl, sym}
use Rattle.bare_machine.specs.Step.{BareStepped}
use Rattle.bare_machine.proofs.Instructions.{quiet-behind, ran, ran-behind, ran-goes, same-behind}
use Rattle.bare_machine.proofs.Breakpoints.{avoids-next, met-there}
use Rattle.bare_machine.proofs.WordCounts.{executed_sized}
use Rattle.bare_machine.proofs.advances.pass_and_step.Goals as goal
use Rattle.bare_machine.proofs.advances.pass_and_step.Goals.{else-steps-gt0-via-then-steps-gt0+else-is_met, else-steps-gt0-via-else-steps-gt0}

pub returns-then-steps-most-clause-state : goal.returns-then-steps-most-clause-state
returns-then-steps-most-clause-state c = sym (ap (λ (x : BareStepped). x.state) (ran _ _ _ _ _ _ c.pass-steps.ensures.executes _ refl))

pub returns-then-steps-most-clause-bytes : goal.returns-then-steps-most-clause-bytes
returns-then-steps-most-clause-bytes c = quiet-behind _ _ _ (ran _ _ _ _ _ _ c.pass-steps.ensures.executes _ refl)

pub returns-clause-state : goal.returns-clause-state
returns-clause-state c = c.next_step-stop.ensures.state ∙ sym (ap (λ (x : BareStepped). x.state) (ran-behind _ _ _ _ _ _ c.pass-steps.ensures.executes _ refl))

pub returns-clause-bytes : goal.returns-clause-bytes
returns-clause-bytes c = c.next_step-stop.ensures.bytes ∙ same-behind _ _ _ (sym (ran-behind _ _ _ _ _ _ c.pass-steps.ensures.executes _ refl))

pub returns-then-is_met-clause-state : goal.returns-then-is_met-clause-state
returns-then-is_met-clause-state c = sym (ap (λ (x : BareStepped). x.state) (ran _ _ _ _ _ _ c.pass-steps.ensures.executes _ refl))

pub returns-then-is_met-clause-bytes : goal.returns-then-is_met-clause-bytes
returns-then-is_met-clause-bytes c = quiet-behind _ _ _ (ran _ _ _ _ _ _ c.pass-steps.ensures.executes _ refl)

pub returns-clause-before : goal.returns-clause-before
returns-clause-before c =
    avoids-next c.args.breakpoints.now c.pass-steps.result _ (c.pass-steps.ensures.before _)
    (λ some. elim c.else-steps-gt0.branch [
      | else-steps-gt0-via-then-steps-gt0+else-is_met w ↦ met-there c.args.breakpoints.now c.pass-steps.result _ _ _ _ _ c.pass-steps.ensures.executes (sym w.is_met.ensures ∙ w.if-is_met.false)
      | else-steps-gt0-via-else-steps-gt0 w ↦ absurd (omega (arith, some, w.if-steps-gt0.false))
    ])

pub returns-then-steps-most-clause-last : goal.returns-then-steps-most-clause-last
returns-then-steps-most-clause-last c = ran-goes _ _ _ _ _ c.pass-steps.result c.pass-steps.ensures.executes _ refl (c.pass-steps.result - 1) (omega arith)

pub returns-then-is_met-clause-last : goal.returns-then-is_met-clause-last
returns-then-is_met-clause-last c = ran-goes _ _ _ _ _ c.pass-steps.result c.pass-steps.ensures.executes _ refl (c.pass-steps.result - 1) (omega arith)

pub returns-clause-last : goal.returns-clause-last
returns-clause-last c = ran-goes _ _ _ _ _ c.pass-steps.result c.pass-steps.ensures.executes _ refl (c.pass-steps.result + 1 - 1) (omega arith)

pub returns-then-steps-most-clause-sound : goal.returns-then-steps-most-clause-sound
returns-then-steps-most-clause-sound c = record { byte = c.pass-steps.ensures.byte; steps = omega (arith, c.requires.steps, c.pass-steps.ensures.most); size = executed_sized _ _ _ _ _ c.pass-steps.ensures.executes c.requires.sound.size }

pub returns-then-is_met-clause-sound : goal.returns-then-is_met-clause-sound
returns-then-is_met-clause-sound c = record { byte = c.pass-steps.ensures.byte; steps = omega (arith, c.requires.steps, c.pass-steps.ensures.most); size = executed_sized _ _ _ _ _ c.pass-steps.ensures.executes c.requires.sound.size }

pub next_step-stop-requires-clause-sound : goal.next_step-stop-requires-clause-sound
next_step-stop-requires-clause-sound c = record { byte = c.pass-steps.ensures.byte; steps = omega (arith, c.requires.steps, c.pass-steps.ensures.most); size = executed_sized _ _ _ _ _ c.pass-steps.ensures.executes c.requires.sound.size }
