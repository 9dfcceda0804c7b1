use Rattle.std.proofs.Common.{◌∙◌, ap, subst, sym}
use Rattle.kernel_machine.specs.RunningMachine.Private.Leaves.{Leaves}
use Rattle.kernel_machine.proofs.RunningMachine.LeftParts.{leaves-none}
use Rattle.kernel_machine.proofs.RunningMachine.StepParts.{step-stays}
use Rattle.kernel_machine.proofs.running_machine.steps.step_or_stay.Goals as goal

pub step-requires-clause-represents : goal.step-requires-clause-represents
step-requires-clause-represents g c =
    let (k, st, h, same, few) = c.requires.represents in
    (k, st, h, sym same ∙ c.in-None.is, few)

pub returns-in-Some-clause-stepped : goal.returns-in-Some-clause-stepped
returns-in-Some-clause-stepped g c = λ k st h same few. subst (Leaves _ _ _) (sym (step-stays k _ (sym same ∙ c.in-Some.is))) (leaves-none _ _ k st)

pub returns-in-Some-clause-stop : goal.returns-in-Some-clause-stop
returns-in-Some-clause-stop g c = λ k st h same few. same ∙ ap (λ x. x.kernel.stop) (sym (step-stays k _ (sym same ∙ c.in-Some.is)))

pub returns-in-None-clause-stepped : goal.returns-in-None-clause-stepped
returns-in-None-clause-stepped g c = λ k st h same few. c.step.ensures.stepped k st h (sym same ∙ c.in-None.is) few

pub returns-in-None-clause-stop : goal.returns-in-None-clause-stop
returns-in-None-clause-stop g c = λ k st h same few. c.step.ensures.stop k st h (sym same ∙ c.in-None.is) few

pub returns-in-Some-clause-taken : goal.returns-in-Some-clause-taken
returns-in-Some-clause-taken g c = λ k st h goes same few.
    let none = sym c.in-Some.is ∙ same ∙ goes in
    cc

pub returns-in-None-clause-taken : goal.returns-in-None-clause-taken
returns-in-None-clause-taken g c = λ k st h goes same few. c.step.ensures.taken k st h goes few
