use Rattle.std.proofs.Common.{arith}
use Rattle.std.proofs.lemmas.Result.{err_from_is_err_and}
use Rattle.byte_streams.proofs.AppendedTexts.{flat_map-at, flat_map-more}
use Rattle.byte_streams.proofs.GatheredTexts.{IsCut-more, IsCut-then, IsGathered-then}
use Rattle.module_text.specs.Canonical.{text_of_hunk}
use Rattle.module_text.proofs.print.gather_hunks.Goals as goal

pub returns-in_err-gather_hunk-clause-text : goal.returns-in_err-gather_hunk-clause-text
returns-in_err-gather_hunk-clause-text g c =
    let p = err_from_is_err_and c.from_residual.result c.from_residual.ensures.1 in
    rw p.1 (rw (flat_map-at text_of_hunk c.args.hunks.now c.loop-hunk.hunk-index c.hunk-item.result c.loop-hunk-test.true, ← c.hunk-item.is)
    (IsCut-then c.loop-hunk.invariant.text (IsCut-more _ c.in_err-gather_hunk.ensures.text)))

pub loop-hunk-preserved : goal.loop-hunk-preserved
loop-hunk-preserved g c = record {
  text = rw (flat_map-more text_of_hunk c.args.hunks.now c.loop-hunk.hunk-index c.hunk-item.result c.loop-hunk-test.true, ← c.hunk-item.is)
      (IsGathered-then c.loop-hunk.invariant.text c.in_ok-gather_hunk.ensures.text);
  later = omega (arith, c.in_ok-gather_hunk.ensures.cause);
}
