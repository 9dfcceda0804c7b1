use Rattle.std.proofs.Common.{◌∙◌, ap, sym}
use Rattle.bare_machine.specs.Step.{BareStepped}
use Rattle.bare_machine.proofs.Runs.{step-stopped}
use Rattle.bare_machine.proofs.steps.step_or_stay.Goals as goal

pub returns-in-Some-clause-state : goal.returns-in-Some-clause-state
returns-in-Some-clause-state c = sym (ap (λ (x : BareStepped). x.state) (step-stopped _ (λ none. (let other = sym c.in-Some.is ∙ none in cc))))

pub returns-in-Some-clause-bytes : goal.returns-in-Some-clause-bytes
returns-in-Some-clause-bytes c = c.requires.empty ∙ sym (ap (λ (x : BareStepped). x.bytes) (step-stopped _ (λ none. (let other = sym c.in-Some.is ∙ none in cc))))
