use Rattle.std.proofs.Common.{◌∙◌, ap, sym}
use Rattle.bare_machine.specs.Step.{BareStepped}
use Rattle.bare_machine.proofs.Instructions.{same-behind, step-calls}
use Rattle.bare_machine.proofs.steps.next_step.Goals as goal

pub returns-clause-state : goal.returns-clause-state
returns-clause-state c = c.answer_call.ensures.state ∙ sym (ap (λ (x : BareStepped). x.state) (step-calls _ _ _ (c.requires.calls c.if-not-calls.false)))

pub returns-clause-bytes : goal.returns-clause-bytes
returns-clause-bytes c = c.answer_call.ensures.bytes ∙ same-behind _ _ _ (sym (step-calls _ _ _ (c.requires.calls c.if-not-calls.false)))
