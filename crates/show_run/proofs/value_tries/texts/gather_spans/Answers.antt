use Rattle.std.proofs.Common.{suc, drop, arith}
use Rattle.std.specs.List.{flat_map}
use Rattle.std.proofs.lemmas.Result.{err_from_is_err_and}
use Rattle.byte_streams.proofs.AppendedTexts.{flat_map-at, flat_map-more}
use Rattle.byte_streams.proofs.GatheredTexts.{IsCut-more, IsCut-then, IsGathered-then}
use Rattle.show_run.specs.ValueTries.Spans.{span_of}
use Rattle.show_run.specs.ValueTries.TryTexts.{span_text}
use Rattle.show_run.proofs.value_tries.texts.gather_spans.Goals as goal

pub returns-in_err-gather_span-clause-text : goal.returns-in_err-gather_span-clause-text
returns-in_err-gather_span-clause-text g c =
    let i = c.loop-span.span-index in
    let spans = c.args.spans.now in
    let p = err_from_is_err_and c.from_residual.result c.from_residual.ensures.1 in
    rw p.1 (rw (flat_map-at span_text spans i (span_of 0) c.loop-span-test.true)
    (IsCut-then c.loop-span.invariant.text (IsCut-more (flat_map span_text (drop (suc i) spans)) c.in_err-gather_span.ensures.text)))

pub loop-span-preserved : goal.loop-span-preserved
loop-span-preserved g c = record {
  text = rw (flat_map-more span_text c.args.spans.now c.loop-span.span-index (span_of 0) c.loop-span-test.true)
      (IsGathered-then c.loop-span.invariant.text c.in_ok-gather_span.ensures.text);
  later = omega (arith, c.in_ok-gather_span.ensures.cause);
}
