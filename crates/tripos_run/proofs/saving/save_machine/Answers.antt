use Rattle.std.proofs.Common.{◌≡◌, ◌∙◌, ℕ, Option, None, Some, refl, subst, sym}
use Rattle.byte_streams.specs.Write.{Prints}
use Rattle.kernel_model.specs.declared.kernel_record.stops.Stop.{Stop}
use Rattle.tripos_machine.specs.State.{steps_of}
use Rattle.saved_text.specs.Canonical.{canonical}
use Rattle.saved_machine.specs.ImagePrint.SavedImage.{saved_image}
use Rattle.program_answers.specs.Answer.{Answer}
use Rattle.program_answers.specs.Answered.{Answered}
use Rattle.program_answers.specs.declared.status.Status.TheVariants.{Done}
use Rattle.program_answers.proofs.AnswerParts.{Answered-by, Answers-done, status_after}
use Rattle.tripos_run.specs.Answer.{status_of}
use Rattle.tripos_run.specs.SavedAnswers.{IsKept}
use Rattle.tripos_run.specs.Texts.{closing_text}
use Rattle.tripos_run.proofs.AnswerParts.{Answers-run_text}
use Rattle.tripos_run.proofs.saving.save_machine.Goals as goal

pub returns-in-None-clause-answer : goal.returns-in-None-clause-answer
returns-in-None-clause-answer g c =
    let s = c.args.session.now in
    let t = c.args.machine.now.state in
    let holds = g.K.Sink.holds in
    let kept : Answer = record { status = Done; bytes = canonical (saved_image s.version t s.go) } in
    subst (λ (o : Option Stop). Answered (IsKept s.version s.go t o) (holds c.args.out.now) (holds c.write_machine.new.out) c.status_after.result) (sym c.in-None.is ∙ c.stop.ensures)
    (rw c.status_after.ensures
    (Answered-by (IsKept s.version s.go t None) kept (refl, c.write_machine.ensures.sound, c.write_machine.ensures.numbers) _ _ (status_after c.write_machine.result Done)
    (Answers-done kept _ _ c.write_machine.result refl c.write_machine.ensures.text)))

pub returns-in-Some-clause-answer : goal.returns-in-Some-clause-answer
returns-in-Some-clause-answer g c =
    let s = c.args.session.now in
    let t = c.args.machine.now.state in
    let stop = c.in-Some.stop in
    let holds = g.K.Sink.holds in
    let ended : Answer = record { status = status_of stop; bytes = closing_text (steps_of t) stop } in
    let text : Prints (holds c.args.out.now) (holds c.write_closing.new.out) (closing_text (steps_of t) stop) c.write_closing.result =
    subst (λ (n : ℕ). Prints (holds c.args.out.now) (holds c.write_closing.new.out) (closing_text n stop) c.write_closing.result) c.steps.ensures c.write_closing.ensures.text in
    subst (λ (o : Option Stop). Answered (IsKept s.version s.go t o) (holds c.args.out.now) (holds c.write_closing.new.out) c.status_after-in-Some.result) (sym c.in-Some.is ∙ c.stop.ensures)
    (rw (c.status_after-in-Some.ensures, c.status_of.ensures)
    (Answered-by (IsKept s.version s.go t (Some stop)) ended refl _ _ (status_after c.write_closing.result (status_of stop))
    (Answers-run_text ended _ _ stop c.write_closing.result refl text)))
