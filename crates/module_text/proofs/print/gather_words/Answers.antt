use Rattle.std.proofs.Common.{arith}
use Rattle.std.proofs.lemmas.Result.{err_from_is_err_and}
use Rattle.byte_streams.proofs.GatheredTexts.{IsCut-more, IsCut-then, IsGathered-then}
use Rattle.module_text.proofs.PrintParts.{words_at, words_more}
use Rattle.module_text.proofs.print.gather_words.Goals as goal

pub returns-in_err-gather_word-clause-text : goal.returns-in_err-gather_word-clause-text
returns-in_err-gather_word-clause-text g c =
    let p = err_from_is_err_and c.from_residual.result c.from_residual.ensures.1 in
    rw p.1 (rw (words_at c.args.words.now c.loop-i.i c.loop-i-test.true) (IsCut-then c.loop-i.invariant.text (IsCut-more _ c.in_err-gather_word.ensures.text)))

pub loop-i-preserved : goal.loop-i-preserved
loop-i-preserved g c = record {
  text = rw (words_more c.args.words.now c.loop-i.i c.loop-i-test.true) (IsGathered-then c.loop-i.invariant.text c.in_ok-gather_word.ensures.text);
  later = omega arith;
}
