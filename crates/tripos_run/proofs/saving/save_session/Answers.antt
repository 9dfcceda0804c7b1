use Rattle.std.proofs.Common.{◌≡◌, ◌∙◌, Result, Err, refl, subst, sym, ap}
use Rattle.byte_streams.specs.Write.{Prints}
use Rattle.module_text.specs.TextReader.Refusal.{Refusal, refusal}
use Rattle.session_text.specs.declared.boot_ends.BootEnd.{BootEnd}
use Rattle.tripos_machine.specs.Boot.{EndsAs, boot}
use Rattle.tripos_machine.specs.State.{State}
use Rattle.tripos_machine.specs.Step.{Stepped, run}
use Rattle.program_answers.specs.Answer.{Answer, no_boot_answer}
use Rattle.program_answers.specs.Answered.{Answered}
use Rattle.program_answers.specs.Texts.{no_boot_text}
use Rattle.program_answers.specs.declared.status.Status.TheVariants.{NoBoot}
use Rattle.program_answers.proofs.AnswerParts.{Answered-by, Answers-no_boot, status_after}
use Rattle.tripos_run.specs.SavedAnswers.{IsSavedSession, IsSavedState}
use Rattle.tripos_run.proofs.saving.save_session.Goals as goal

pub returns-in-Ok-clause-answer : goal.returns-in-Ok-clause-answer
returns-in-Ok-clause-answer g c =
    let s = c.args.session.now in
    let holds = g.K.Sink.holds in
    let state = ap (λ (t : State). (run s.go t).state) c.in-Ok.ensures.2.state in
    subst (λ (r : Result Stepped Refusal). Answered (IsSavedSession s r) (holds c.args.out.now) (holds c.run_and_save.new.out) c.run_and_save.result) (sym c.in-Ok.ensures.1)
    (subst (λ (t : State). Answered (IsSavedState s t) (holds c.args.out.now) (holds c.run_and_save.new.out) c.run_and_save.result) state c.run_and_save.ensures.answer)

pub returns-in-Err-Line-clause-answer : goal.returns-in-Err-Line-clause-answer
returns-in-Err-Line-clause-answer g c =
    let s = c.args.session.now in
    let holds = g.K.Sink.holds in
    let r = refusal c.in-Err-Line.line c.in-Err-Line.code in
    let refused : boot s ≡ Err r = subst (λ (e : BootEnd). EndsAs e (boot s)) c.in-Err-Line.field-0-is c.in-Err-Line.ensures in
    let text : Prints (holds c.args.out.now) (holds c.write_no_boot.new.out) (no_boot_text r) c.write_no_boot.result =
    rw (← c.in-Err-Line.line-is, ← c.in-Err-Line.code-is) c.write_no_boot.ensures.text in
    let answered : Answered (λ (a : Answer). a ≡ no_boot_answer r) (holds c.args.out.now) (holds c.write_no_boot.new.out) c.status_after.result =
    rw c.status_after.ensures
    (Answered-by (λ (a : Answer). a ≡ no_boot_answer r) (no_boot_answer r) refl _ _ (status_after c.write_no_boot.result NoBoot) (Answers-no_boot r _ _ c.write_no_boot.result text))
    in
    subst (λ (x : Result Stepped Refusal). Answered (IsSavedSession s x) (holds c.args.out.now) (holds c.write_no_boot.new.out) c.status_after.result) (sym refused) answered
