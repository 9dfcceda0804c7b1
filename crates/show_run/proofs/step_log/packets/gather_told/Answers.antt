use Rattle.std.proofs.Common.{suc, drop, arith, None}
use Rattle.std.specs.List.{flat_map}
use Rattle.std.proofs.lemmas.Result.{err_from_is_err_and}
use Rattle.byte_streams.proofs.AppendedTexts.{flat_map-at, flat_map-more}
use Rattle.byte_streams.proofs.GatheredTexts.{IsCut-more, IsCut-then, IsGathered-then}
use Rattle.show_run.specs.StepLog.Packets.{packet_lines}
use Rattle.show_run.proofs.step_log.packets.gather_told.Goals as goal

pub returns-in_err-gather_packet-clause-text : goal.returns-in_err-gather_packet-clause-text
returns-in_err-gather_packet-clause-text g c =
    let i = c.loop-packet.packet-index in
    let told = c.args.told.now in
    let lines = packet_lines c.args.m c.args.store.now in
    let p = err_from_is_err_and c.from_residual.result c.from_residual.ensures.1 in
    rw p.1 (rw (flat_map-at lines told i None c.loop-packet-test.true)
    (IsCut-then c.loop-packet.invariant.text (IsCut-more (flat_map lines (drop (suc i) told)) c.in_err-gather_packet.ensures.text)))

pub loop-packet-preserved : goal.loop-packet-preserved
loop-packet-preserved g c = record {
  text = rw (flat_map-more (packet_lines c.args.m c.args.store.now) c.args.told.now c.loop-packet.packet-index None c.loop-packet-test.true)
      (IsGathered-then c.loop-packet.invariant.text c.in_ok-gather_packet.ensures.text);
  later = omega (arith, c.in_ok-gather_packet.ensures.cause);
}
