use Rattle.std.proofs.Common.{subst, arith}
use Rattle.module_text.specs.TextReader.Answers.{EndsAs}
use Rattle.module_text.specs.TextReader.Lines.{lines_of}
use Rattle.module_text.specs.TextReader.Refusal.{refusal}
use Rattle.session_text.specs.Front.{front_count, front_lines}
use Rattle.session_text.specs.SessionOfText.{session_lines}
use Rattle.program_answers.proofs.AnswerParts.{Answers-refused}
use Rattle.tripos_run.proofs.debugging.answer_debugging.Goals as goal
use Rattle.session_text.proofs.FrontLines.{place_after-within}

pub text_behind-lines-requires : goal.text_behind-lines-requires
text_behind-lines-requires g c = omega (arith, c.in-Ok.ensures.end, place_after-within (front_count (lines_of c.args.text.now)) c.args.text.now)

pub returns-in-Err-Bad-clause-answer : goal.returns-in-Err-Bad-clause-answer
returns-in-Err-Bad-clause-answer g c =
    let read = subst (λ e. EndsAs e (session_lines (front_lines c.args.text.now))) c.in-Err-Bad.field-0-is c.in-Err-Bad.ensures.session in
    rw (read, c.status_after.ensures) (Answers-refused (refusal c.in-Err-Bad.line c.in-Err-Bad.code) _ _ c.write_refused.result (rw (← c.in-Err-Bad.line-is, ← c.in-Err-Bad.code-is) c.write_refused.ensures.text))
