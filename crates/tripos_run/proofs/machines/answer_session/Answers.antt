use Rattle.std.proofs.Common.{◌≡◌, List, Result, Err, sym, ap, subst, arith}
use Rattle.std.proofs.lemmas.Bool.{leb-true}
use Rattle.byte_streams.specs.Write.{Prints}
use Rattle.module_text.specs.TextReader.Refusal.{Refusal, refusal}
use Rattle.session_text.specs.declared.boot_ends.BootEnd.{BootEnd}
use Rattle.kernel_model.specs.KernelRecord.Ranges.{most_steps}
use Rattle.kernel_lists.specs.declared.packet_queue.events.KernelEvent.{KernelEvent}
use Rattle.tripos_machine.specs.Boot.{EndsAs, boot}
use Rattle.tripos_machine.specs.State.{State, steps_of}
use Rattle.tripos_machine.specs.Step.{Stepped, boot_events, run}
use Rattle.program_answers.specs.Texts.{no_boot_text}
use Rattle.program_answers.specs.Answer.{Answers}
use Rattle.tripos_run.specs.Answer.{end_after, machine_answer, run_answer}
use Rattle.program_answers.proofs.AnswerParts.{Answers-no_boot}
use Rattle.tripos_run.proofs.machines.answer_session.Goals as goal

pub answer_machine-requires : goal.answer_machine-requires
answer_machine-requires g c =
    let booted = c.in-Ok.ensures.2 in
    omega (arith, ap steps_of booted.state, booted.steps, leb-true c.args.session.now.go most_steps c.requires.steps)

pub returns-in-Ok-clause-answer : goal.returns-in-Ok-clause-answer
returns-in-Ok-clause-answer g c =
    let holds = g.K.Sink.holds in
    let s = c.args.session.now in
    let (x, is, booted) = c.in-Ok.ensures in
    let ran = subst (λ (t : State). Answers (run_answer c.args.report (end_after (boot_events t) (run s.go t))) (holds c.args.out.now) (holds c.answer_machine.new.out) c.answer_machine.result) booted.state c.answer_machine.ensures.answer in
    let traced = subst (λ (es : List KernelEvent). Answers (run_answer c.args.report (end_after es (run s.go x.state))) (holds c.args.out.now) (holds c.answer_machine.new.out) c.answer_machine.result) (sym booted.events) ran in
    subst (λ (r : Result Stepped Refusal). Answers (machine_answer c.args.report s.go r) (holds c.args.out.now) (holds c.answer_machine.new.out) c.answer_machine.result) (sym is) traced

pub returns-in-Err-Line-clause-answer : goal.returns-in-Err-Line-clause-answer
returns-in-Err-Line-clause-answer g c =
    let refused : boot c.args.session.now ≡ Err (refusal c.in-Err-Line.line c.in-Err-Line.code) =
    subst (λ (e : BootEnd). EndsAs e (boot c.args.session.now)) c.in-Err-Line.field-0-is c.in-Err-Line.ensures in
    let text : Prints (g.K.Sink.holds c.args.out.now) (g.K.Sink.holds c.write_no_boot.new.out) (no_boot_text (refusal c.in-Err-Line.line c.in-Err-Line.code)) c.write_no_boot.result =
    rw (← c.in-Err-Line.line-is, ← c.in-Err-Line.code-is) c.write_no_boot.ensures.text in
    rw (refused, c.status_after.ensures) (Answers-no_boot (refusal c.in-Err-Line.line c.in-Err-Line.code) _ _ c.write_no_boot.result text)
