use Rattle.std.proofs.Common.{[], ◌+◌, ◌++◌, get_or, arith}
use Rattle.std.proofs.lemmas.Result.{err_from_is_err_and}
use Rattle.byte_streams.proofs.GatheredTexts.{IsCut-more, IsCut-then, IsGathered-nothing, IsGathered-then}
use Rattle.debugger.specs.Texts.{word_line}
use Rattle.debugger.proofs.WordLines.{words-all, words-at, words-first, words-next}
use Rattle.debugger.proofs.words.gather_lines.Goals as goal

pub loop-i-init : goal.loop-i-init
loop-i-init g c = ([], record { so_far = words-first c.args.from _; gathered = IsGathered-nothing _ _; later = omega arith })

pub returns-in_err-gather_word-clause-text : goal.returns-in_err-gather_word-clause-text
returns-in_err-gather_word-clause-text g c =
    let kept = c.loop-i.invariant.1 in
    let p = err_from_is_err_and c.from_residual.result c.from_residual.ensures.1 in
    rw (p.1, words-at kept.so_far c.loop-i-test.true) (IsCut-then kept.gathered (IsCut-more _ c.in_err-gather_word.ensures.text))

pub loop-i-preserved : goal.loop-i-preserved
loop-i-preserved g c =
    let kept = c.loop-i.invariant in (
      kept.0 ++ word_line (c.args.from + c.loop-i.i) (get_or c.args.words.now c.loop-i.i 0),
      record {
        so_far = words-next kept.1.so_far c.loop-i-test.true;
        gathered = IsGathered-then kept.1.gathered c.in_ok-gather_word.ensures.text;
        later = omega (arith, c.in_ok-gather_word.ensures.cause);
      },
    )

pub returns-clause-text : goal.returns-clause-text
returns-clause-text g c =
    let kept = c.loop-i.invariant.1 in
    rw (words-all kept.so_far c.loop-i-test.false) kept.gathered
