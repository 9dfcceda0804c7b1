use Rattle.std.proofs.Common.{◌∙◌, sym}
use Rattle.std.proofs.lemmas.Result.{err_from_is_err_and}
use Rattle.session_text.proofs.FrontLines.{length-front_lines, refusal-front, session_of-front}
use Rattle.session_text.proofs.fronts.read_front.Goals as goal

pub returns-in_err-session-clause-session : goal.returns-in_err-session-clause-session
returns-in_err-session-clause-session c =
    let p = err_from_is_err_and c.from_residual.result c.from_residual.ensures.1 in
    let same = session_of-front c.args.text.now c.front_count-lines.result c.place_after-end.result c.front_count-lines.ensures.count c.place_after-end.ensures.place in
    rw p.1 (refusal-front p.0 c.in_err-session.field-0.0 _ _ p.2 same c.in_err-session.ensures.value)

pub returns-clause-session : goal.returns-clause-session
returns-clause-session c =
    let same = session_of-front c.args.text.now c.front_count-lines.result c.place_after-end.result c.front_count-lines.ensures.count c.place_after-end.ensures.place in
    sym same ∙ c.in_ok-session.ensures.value

pub returns-clause-lines : goal.returns-clause-lines
returns-clause-lines c = c.front_count-lines.ensures.count ∙ sym (length-front_lines c.args.text.now)
