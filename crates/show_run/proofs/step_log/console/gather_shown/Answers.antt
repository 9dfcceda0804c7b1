use Rattle.std.proofs.Common.{suc, drop, arith}
use Rattle.std.specs.List.{flat_map}
use Rattle.std.proofs.lemmas.Result.{err_from_is_err_and}
use Rattle.byte_streams.proofs.AppendedTexts.{flat_map-at, flat_map-more}
use Rattle.byte_streams.proofs.GatheredTexts.{IsCut-more, IsCut-then, IsGathered-then}
use Rattle.show_run.specs.StepLog.Console.{shown}
use Rattle.show_run.proofs.step_log.console.gather_shown.Goals as goal

pub returns-in_err-gather_byte-clause-text : goal.returns-in_err-gather_byte-clause-text
returns-in_err-gather_byte-clause-text g c =
    let i = c.loop-b.b-index in
    let bytes = c.args.bytes.now in
    let p = err_from_is_err_and c.from_residual.result c.from_residual.ensures.1 in
    rw p.1 (rw (flat_map-at shown bytes i 0 c.loop-b-test.true)
    (IsCut-then c.loop-b.invariant.text (IsCut-more (flat_map shown (drop (suc i) bytes)) c.in_err-gather_byte.ensures.text)))

pub loop-b-preserved : goal.loop-b-preserved
loop-b-preserved g c = record {
  text = rw (flat_map-more shown c.args.bytes.now c.loop-b.b-index 0 c.loop-b-test.true)
      (IsGathered-then c.loop-b.invariant.text c.in_ok-gather_byte.ensures.text);
  later = omega (arith, c.in_ok-gather_byte.ensures.cause);
}
