use Rattle.std.proofs.Common.{◌∙◌, length, drop, ap, arith}
use Rattle.std.proofs.lemmas.List.{length-drop}
use Rattle.std.proofs.lemmas.Result.{err_from_is_err_and}
use Rattle.session_text.specs.Front.{front_lines}
use Rattle.machine_ring.proofs.RingLink.LeftLines.{front_end-within, front_lines-few, front_lines-within, left_is}
use Rattle.machine_ring.proofs.RingLink.RefusedLines.{up_to}
use Rattle.machine_ring.proofs.ring_link.machines.read_left.Goals as goal

pub returns-in_err-front-clause-within : goal.returns-in_err-front-clause-within
returns-in_err-front-clause-within c =
    let p = err_from_is_err_and c.from_residual.result c.from_residual.ensures.1 in
    let few = front_lines-within c.args.text.now in
    rw (p.1, p.2) (up_to _ (front_lines c.args.text.now) c.in_err-front.field-0.0 (omega arith) c.in_err-front.ensures.session)

pub text_behind-rest-requires : goal.text_behind-rest-requires
text_behind-rest-requires c = omega (arith, c.in_ok-front.ensures.end, front_end-within c.args.text.now)

pub returns-clause-value : goal.returns-clause-value
returns-clause-value c =
    left_is c.args.text.now c.in_ok-front.front.session c.in_ok-front.front.lines c.text_behind-rest.result.now c.in_ok-front.ensures.session
    c.in_ok-front.ensures.lines (c.text_behind-rest.ensures ∙ ap (λ n. drop n c.args.text.now) c.in_ok-front.ensures.end)

pub returns-clause-shorter : goal.returns-clause-shorter
returns-clause-shorter c =
    let few = front_lines-few c.args.text.now in
    let within = front_end-within c.args.text.now in
    let rest = ap length c.text_behind-rest.ensures in
    omega (arith, rest, length-drop c.in_ok-front.front.end c.args.text.now, c.in_ok-front.ensures.end, c.in_ok-front.ensures.lines)
