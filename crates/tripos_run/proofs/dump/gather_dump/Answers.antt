use Rattle.std.proofs.Common.{[], ◌++◌, get_or, arith}
use Rattle.std.proofs.lemmas.Result.{err_from_is_err_and}
use Rattle.byte_streams.proofs.GatheredTexts.{IsCut-more, IsCut-then, IsGathered-nothing, IsGathered-then}
use Rattle.tripos_run.specs.Texts.{word_text}
use Rattle.tripos_run.proofs.DumpLines.{dump-all, dump-at, dump-first, dump-next}
use Rattle.tripos_run.proofs.dump.gather_dump.Goals as goal

pub loop-a-init : goal.loop-a-init
loop-a-init g c = ([], record { so_far = dump-first _; gathered = IsGathered-nothing _ _; later = omega arith })

pub returns-in_err-gather_word-clause-text : goal.returns-in_err-gather_word-clause-text
returns-in_err-gather_word-clause-text g c =
    let kept = c.loop-a.invariant.1 in
    let p = err_from_is_err_and c.from_residual.result c.from_residual.ensures.1 in
    rw (p.1, dump-at kept.so_far c.loop-a-test.true) (IsCut-then kept.gathered (IsCut-more _ c.in_err-gather_word.ensures.text))

pub loop-a-preserved : goal.loop-a-preserved
loop-a-preserved g c =
    let kept = c.loop-a.invariant in (
      kept.0 ++ word_text c.loop-a.a (get_or c.args.words.now c.loop-a.a 0),
      record {
        so_far = dump-next kept.1.so_far c.loop-a-test.true;
        gathered = IsGathered-then kept.1.gathered c.in_ok-gather_word.ensures.text;
        later = omega (arith, c.in_ok-gather_word.ensures.cause);
      },
    )

pub returns-clause-text : goal.returns-clause-text
returns-clause-text g c =
    let kept = c.loop-a.invariant.1 in
    rw (dump-all kept.so_far c.loop-a-test.false) kept.gathered
