use Rattle.std.proofs.Common.{suc, drop, arith}
use Rattle.std.specs.List.{flat_map}
use Rattle.std.proofs.lemmas.Result.{err_from_is_err_and}
use Rattle.byte_streams.proofs.AppendedTexts.{flat_map-at, flat_map-more}
use Rattle.byte_streams.proofs.GatheredTexts.{IsCut-more, IsCut-then, IsGathered-then}
use Rattle.show_run.specs.StepLog.Writes.{written_line}
use Rattle.show_run.proofs.step_log.writes.gather_each.Goals as goal

pub returns-in_err-gather_written-clause-text : goal.returns-in_err-gather_written-clause-text
returns-in_err-gather_written-clause-text g c =
    let i = c.loop-write.write-index in
    let writes = c.args.writes.now in
    let lines = written_line c.args.m c.args.store.now in
    let p = err_from_is_err_and c.from_residual.result c.from_residual.ensures.1 in
    rw p.1 (rw (flat_map-at lines writes i (0, 0) c.loop-write-test.true)
    (IsCut-then c.loop-write.invariant.text (IsCut-more (flat_map lines (drop (suc i) writes)) c.in_err-gather_written.ensures.text)))

pub loop-write-preserved : goal.loop-write-preserved
loop-write-preserved g c = record {
  text = rw (flat_map-more (written_line c.args.m c.args.store.now) c.args.writes.now c.loop-write.write-index (0, 0) c.loop-write-test.true)
      (IsGathered-then c.loop-write.invariant.text c.in_ok-gather_written.ensures.text);
  later = omega (arith, c.in_ok-gather_written.ensures.cause);
}
