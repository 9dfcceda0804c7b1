use Rattle.std.proofs.Common.{◌∙◌, ◌∷◌, [], ◌++◌, sym, append_assoc, arith}
use Rattle.std.proofs.lemmas.Result.{err_from_is_err_and}
use Rattle.byte_streams.proofs.FailedPrint.{Prints-cut}
use Rattle.byte_streams.proofs.AppendedTexts.{Appends-then}
use Rattle.session_text.proofs.PrintedTexts.{colon_text, colon_text-more}
use Rattle.session_text.proofs.print.print_text.Goals as goal

pub returns-in_err-write_pieces-clause-text : goal.returns-in_err-write_pieces-clause-text
returns-in_err-write_pieces-clause-text g c =
    let p = err_from_is_err_and c.from_residual.result c.from_residual.ensures.1 in
    let t = c.loop-line.invariant.text in
    rw (colon_text-more c.args.text.now t.0 c.loop-line.rest.now c.in-Some.line.now c.in-Some.others.now c.in-Some.ensures.cases t.2) (Prints-cut _ _ _ _ _ _ _ p.0 p.1 t.1 c.in_err-write_pieces.ensures.text)

pub loop-line-preserved : goal.loop-line-preserved
loop-line-preserved g c =
    let t = c.loop-line.invariant.text in
    let piece = 58 ∷ (c.in-Some.line.now ++ 10 ∷ []) in
    let more = colon_text-more c.args.text.now t.0 c.loop-line.rest.now c.in-Some.line.now c.in-Some.others.now c.in-Some.ensures.cases t.2 in
    record {
      text = (t.0 ++ piece, Appends-then _ _ _ _ _ t.1 c.in_ok-write_pieces.ensures.text, more ∙ sym (append_assoc t.0 piece (colon_text c.in-Some.others.now)));
      later = omega arith;
    }
