use Rattle.std.proofs.Common.{◌∙◌, arith, subst}
use Rattle.program_answers.specs.Answer.{Answers}
use Rattle.tripos_run.proofs.AnswerParts.{generated-is}
use Rattle.tripos_run.proofs.session.answer_generated.Goals as goal

pub returns-in-Ok-clause-answer : goal.returns-in-Ok-clause-answer
returns-in-Ok-clause-answer g c =
    let text = c.deref.ensures.value in
    subst (λ a. Answers a (g.K.Sink.holds c.args.out.now) (g.K.Sink.holds c.answer_session_text.new.out) c.answer_session_text.result)
    (generated-is c.args.n c.len.result c.deref.result.now (text ∙ c.in-Ok.ensures.text) (omega (arith, c.len.ensures, c.deref.ensures.len))) c.answer_session_text.ensures.answer
