use Rattle.std.proofs.Common.{◌∙◌, ap, length, sym}
use Rattle.tripos_machine.specs.State.{words_of}
use Rattle.tripos_machine.specs.Step.{Stepped, step}
use Rattle.tripos_machine.proofs.StepSizes.{step-size}
use Rattle.debugger.proofs.machine_history.steps.note_step.Goals as goal

pub note_places-requires-clause-size : goal.note_places-requires-clause-size
note_places-requires-clause-size c =
    ap length c.store.ensures ∙ ap (λ (x : Stepped). length (words_of x.state)) (sym c.in-Some.ensures.step.step) ∙ step-size c.args.machine.now.state c.requires.sound ∙ ap length (sym c.requires.words)

pub note-requires : goal.note-requires
note-requires c =
    ap length (c.store-in-None.ensures ∙ ap words_of c.step.ensures.state) ∙ ap (λ s. length (words_of (step s).state)) c.in-None.ensures.step
    ∙ step-size c.args.machine.now.state c.requires.sound ∙ ap length (sym c.requires.words)
