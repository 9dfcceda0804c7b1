use Rattle.std.proofs.Common.{◌≡◌, Err, ap, subst, arith}
use Rattle.module_text.specs.TextReader.Answers.{EndsAs}
use Rattle.module_text.specs.TextReader.Lines.{lines_of}
use Rattle.module_text.specs.TextReader.Refusal.{refusal}
use Rattle.session_text.specs.Front.{front_count, front_lines}
use Rattle.session_text.specs.SessionOfText.{session_lines}
use Rattle.session_text.proofs.FrontLines.{place_after-within}
use Rattle.show_run.specs.Places.Sessions.{read_state}
use Rattle.show_run.proofs.places.sessions.debugged_machine.Goals as goal

pub text_behind-lines-requires : goal.text_behind-lines-requires
text_behind-lines-requires c = omega (arith, c.in-Ok.ensures.end, place_after-within (front_count (lines_of c.args.text.now)) c.args.text.now)

pub returns-in-Err-Bad : goal.returns-in-Err-Bad
returns-in-Err-Bad c =
    let read : session_lines (front_lines c.args.text.now) ≡ Err (refusal c.in-Err-Bad.line c.in-Err-Bad.code) =
    subst (λ e. EndsAs e (session_lines (front_lines c.args.text.now))) c.in-Err-Bad.field-0-is c.in-Err-Bad.ensures.session in
    rw (c.in-Err-Bad.line-is, c.in-Err-Bad.code-is) (ap (read_state c.args.text.now) read)
