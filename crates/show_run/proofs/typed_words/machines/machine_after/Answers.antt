use Rattle.std.proofs.Common.{◌∙◌, ap, arith}
use Rattle.tripos_machine.specs.State.{State, steps_of}
use Rattle.tripos_machine.specs.Step.{run}
use Rattle.show_run.proofs.TypedWords.SessionRuns.{session-steps}
use Rattle.show_run.proofs.typed_words.machines.machine_after.Goals as goal

pub after_steps-requires : goal.after_steps-requires
after_steps-requires c =
    let (x, is, booted) = c.in-Ok.ensures in
    omega (arith, ap steps_of booted.state, booted.steps, c.requires.few, session-steps c.args.session.now c.requires.lawful)

pub returns-in-Ok : goal.returns-in-Ok
returns-in-Ok c =
    let (x, is, booted) = c.in-Ok.ensures in
    record { first = x; none = booted.steps; boots = is; state = c.after_steps.ensures ∙ ap (λ (z : State). (run c.args.steps z).state) booted.state }
