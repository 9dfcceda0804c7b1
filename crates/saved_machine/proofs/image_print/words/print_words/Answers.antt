use Rattle.std.proofs.Common.{arith}
use Rattle.std.proofs.lemmas.Result.{err_from_is_err_and}
use Rattle.saved_machine.proofs.ImagePrint.PrintedParts.{printed-cut, printed-next}
use Rattle.saved_machine.proofs.ImagePrint.StatementTexts.{words-at}
use Rattle.saved_machine.proofs.image_print.words.print_words.Goals as goal

pub returns-in_err-print_word_at-clause-text : goal.returns-in_err-print_word_at-clause-text
returns-in_err-print_word_at-clause-text g c =
    let p = err_from_is_err_and c.from_residual.result c.from_residual.ensures.1 in
    rw p.1 (printed-cut c.loop-a.invariant.printed _ _ (words-at c.args.words.now c.loop-a.a c.loop-a-test.true) c.in_err-print_word_at.ensures.text)

pub loop-a-preserved : goal.loop-a-preserved
loop-a-preserved g c = record {
  printed = printed-next c.loop-a.invariant.printed _ _ (words-at c.args.words.now c.loop-a.a c.loop-a-test.true) c.in_ok-print_word_at.ensures.text;
  later = omega (arith, c.in_ok-print_word_at.ensures.cause);
}
