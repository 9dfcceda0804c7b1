use Rattle.std.proofs.Common.{arith}
use Rattle.std.proofs.lemmas.Result.{err_from_is_err_and}
use Rattle.byte_streams.proofs.FailedPrint.{Prints-cut}
use Rattle.session_text.proofs.PrintedTexts.{hex_at, hex_more}
use Rattle.byte_streams.proofs.AppendedTexts.{Appends-then}
use Rattle.session_text.proofs.print.print_hex.Goals as goal

pub returns-in_err-print_byte-clause-text : goal.returns-in_err-print_byte-clause-text
returns-in_err-print_byte-clause-text g c =
    let p = err_from_is_err_and c.from_residual.result c.from_residual.ensures.1 in
    rw (hex_at c.args.bytes.now c.loop-byte.byte-index c.loop-byte-test.true) (Prints-cut _ _ _ _ _ _ _ p.0 p.1 c.loop-byte.invariant.text c.in_err-print_byte.ensures.text)

pub loop-byte-preserved : goal.loop-byte-preserved
loop-byte-preserved g c = record {
  text = rw (hex_more c.args.bytes.now c.loop-byte.byte-index c.loop-byte-test.true) (Appends-then _ _ _ _ _ c.loop-byte.invariant.text c.in_ok-print_byte.ensures.text);
  later = omega arith;
}
