use Rattle.std.proofs.Common.{inl, inr, refl, subst}
use Rattle.std.specs.Prelude.{MatchOption}
use Rattle.module_text.specs.TextReader.Refusal.{refusal}
use Rattle.saved_machine.specs.MachineImage.Machines.{HasMachine, IsResumed}
use Rattle.program_answers.specs.Answer.{refused_answer}
use Rattle.tripos_run.specs.SavedAnswers.{IsResumedImage, no_machine_code, resumed_answer}
use Rattle.program_answers.specs.declared.status.Status.TheVariants.{Refused}
use Rattle.program_answers.proofs.AnswerParts.{Answered-by, Answers-refused, status_after}
use Rattle.tripos_run.proofs.resuming.resume_image.Goals as goal

pub returns-in-Ok-Some-clause-answer : goal.returns-in-Ok-Some-clause-answer
returns-in-Ok-Some-clause-answer g c =
    let x = c.args.image in
    let resumed = subst (λ found. MatchOption found (HasMachine x → ⊥) (IsResumed x)) c.in-Ok-Some.field-0-is c.in-Ok-Some.ensures in
    let s = c.in-Ok-Some.machine.state in
    Answered-by (IsResumedImage c.args.last x) (resumed_answer x.go s) (inl (s, resumed.state, refl)) _ _ c.resume_machine.result c.resume_machine.ensures.answer

pub returns-in-Ok-None-clause-answer : goal.returns-in-Ok-None-clause-answer
returns-in-Ok-None-clause-answer g c =
    let x = c.args.image in
    let none = subst (λ found. MatchOption found (HasMachine x → ⊥) (IsResumed x)) c.in-Ok-None.field-0-is c.in-Ok-None.ensures in
    let r = refusal c.args.last no_machine_code in
    rw c.status_after.ensures
    (Answered-by (IsResumedImage c.args.last x) (refused_answer r) (inr (none, refl)) _ _ (status_after c.write_refused.result Refused)
    (Answers-refused r _ _ c.write_refused.result c.write_refused.ensures.text))
