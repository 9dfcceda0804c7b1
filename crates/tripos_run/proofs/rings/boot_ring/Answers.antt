use Rattle.std.proofs.Common.{◌≡◌, Result, Err, subst, sym}
use Rattle.module_text.specs.TextReader.Refusal.{Refusal, refusal}
use Rattle.machine_ring.specs.Boot.{BootsRing, booted_ring}
use Rattle.machine_ring.specs.Rings.{Ring}
use Rattle.program_answers.specs.Answer.{Answers, no_boot_answer}
use Rattle.tripos_run.specs.RingAnswers.{booted_answer}
use Rattle.program_answers.proofs.AnswerParts.{Answers-no_boot}
use Rattle.tripos_run.proofs.rings.boot_ring.Goals as goal

pub returns-in-Ok-clause-answer : goal.returns-in-Ok-clause-answer
returns-in-Ok-clause-answer g c =
    let holds = g.K.Sink.holds in
    subst (λ (r : Result Ring Refusal). Answers (booted_answer r) (holds c.args.out.now) (holds c.run_ring.new.out) c.run_ring.result) (sym c.in-Ok.ensures) c.run_ring.ensures.answer

pub returns-in-Err-Line-clause-answer : goal.returns-in-Err-Line-clause-answer
returns-in-Err-Line-clause-answer g c =
    let holds = g.K.Sink.holds in
    let r = refusal c.in-Err-Line.line c.in-Err-Line.code in
    let refused : booted_ring c.args.input.now ≡ Err r = subst (λ e. BootsRing (Err e) (booted_ring c.args.input.now)) c.in-Err-Line.field-0-is c.in-Err-Line.ensures in
    let answered : Answers (no_boot_answer r) (holds c.args.out.now) (holds c.write_no_boot.new.out) c.status_after.result =
    rw c.status_after.ensures (Answers-no_boot r _ _ c.write_no_boot.result (rw (← c.in-Err-Line.line-is, ← c.in-Err-Line.code-is) c.write_no_boot.ensures.text)) in
    subst (λ (b : Result Ring Refusal). Answers (booted_answer b) (holds c.args.out.now) (holds c.write_no_boot.new.out) c.status_after.result) (sym refused) answered
