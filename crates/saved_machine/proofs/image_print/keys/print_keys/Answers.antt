use Rattle.std.proofs.Common.{arith}
use Rattle.std.proofs.lemmas.Result.{err_from_is_err_and}
use Rattle.saved_machine.proofs.ImagePrint.PrintedParts.{printed-cut, printed-next}
use Rattle.saved_machine.proofs.ImagePrint.StatementTexts.{keys-at}
use Rattle.saved_machine.proofs.image_print.keys.print_keys.Goals as goal

pub returns-in_err-print_key-clause-text : goal.returns-in_err-print_key-clause-text
returns-in_err-print_key-clause-text g c =
    let p = err_from_is_err_and c.from_residual.result c.from_residual.ensures.1 in
    rw p.1 (printed-cut c.loop-key.invariant.printed _ _ (keys-at c.args.keys.now c.loop-key.key-index _ c.loop-key-test.true) c.in_err-print_key.ensures.text)

pub loop-key-preserved : goal.loop-key-preserved
loop-key-preserved g c = record {
  printed = printed-next c.loop-key.invariant.printed _ _ (keys-at c.args.keys.now c.loop-key.key-index _ c.loop-key-test.true) c.in_ok-print_key.ensures.text;
  later = omega (arith, c.in_ok-print_key.ensures.cause);
}
