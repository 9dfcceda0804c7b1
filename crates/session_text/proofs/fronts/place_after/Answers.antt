use Rattle.std.proofs.Common.{◌≡◌, ◌∙◌, ◌<◌, length, sym, arith}
use Rattle.session_text.proofs.FrontLines.{place_after-end, place_after-more}
use Rattle.session_text.proofs.fronts.place_after.Goals as goal

pub loop-i-preserved : goal.loop-i-preserved
loop-i-preserved c =
    let some : 0 < c.loop-i.left = let n = c.if-left-eq0.false in omega arith in
    place_after-more c.loop-i.left c.loop-i.i c.lines_left-left.result c.args.text.now c.loop-i-test.true some c.lines_left-left.ensures ∙ c.loop-i.invariant

pub returns-clause-place : goal.returns-clause-place
returns-clause-place c =
    let end : length c.args.text.now ≡ c.loop-i.i = omega arith in
    end ∙ sym (place_after-end c.loop-i.left c.loop-i.i c.args.text.now c.loop-i-test.false) ∙ c.loop-i.invariant
