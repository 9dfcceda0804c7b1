use Rattle.std.proofs.Common.{◌≡◌, Err, ap, subst, arith}
use Rattle.std.proofs.lemmas.Bool.{leb-true}
use Rattle.byte_streams.specs.Write.{Prints}
use Rattle.module_text.specs.TextReader.Refusal.{refusal}
use Rattle.session_text.specs.declared.boot_ends.BootEnd.{BootEnd}
use Rattle.kernel_model.specs.KernelRecord.Ranges.{most_steps}
use Rattle.tripos_machine.specs.Boot.{EndsAs, boot}
use Rattle.tripos_machine.specs.State.{State, steps_of}
use Rattle.program_answers.specs.Texts.{no_boot_text}
use Rattle.program_answers.specs.Answer.{Answers}
use Rattle.program_answers.proofs.AnswerParts.{Answers-no_boot}
use Rattle.show_run.specs.ShownAnswers.{shown_answer, shown_text}
use Rattle.show_run.proofs.answer.answer_machine.Goals as goal

pub answer_shown-requires : goal.answer_shown-requires
answer_shown-requires g c =
    let booted = c.in-Ok.ensures.2 in
    omega (arith, ap steps_of booted.state, booted.steps, leb-true c.args.session.now.go most_steps c.requires.steps)

pub returns-in-Ok-clause-answer : goal.returns-in-Ok-clause-answer
returns-in-Ok-clause-answer g c =
    let holds = g.K.Sink.holds in
    let s = c.args.session.now in
    let (x, is, booted) = c.in-Ok.ensures in
    let end = c.answer_shown in
    rw is (subst (λ (t : State). Answers (shown_answer (shown_text c.args.asked c.args.programs.now s.go t)) (holds c.args.out.now) (holds end.new.out) end.result) booted.state end.ensures.answer)

pub returns-in-Err-Line-clause-answer : goal.returns-in-Err-Line-clause-answer
returns-in-Err-Line-clause-answer g c =
    let refused : boot c.args.session.now ≡ Err (refusal c.in-Err-Line.line c.in-Err-Line.code) =
    subst (λ (e : BootEnd). EndsAs e (boot c.args.session.now)) c.in-Err-Line.field-0-is c.in-Err-Line.ensures in
    let text : Prints (g.K.Sink.holds c.args.out.now) (g.K.Sink.holds c.write_no_boot.new.out) (no_boot_text (refusal c.in-Err-Line.line c.in-Err-Line.code)) c.write_no_boot.result =
    rw (← c.in-Err-Line.line-is, ← c.in-Err-Line.code-is) c.write_no_boot.ensures.text in
    rw (refused, c.status_after.ensures) (Answers-no_boot (refusal c.in-Err-Line.line c.in-Err-Line.code) _ _ c.write_no_boot.result text)
