use Rattle.std.proofs.Common.{◌∙◌, ap, arith, sym}
use Rattle.std.specs.List.{flat_map}
use Rattle.std.proofs.lemmas.List.Folds.{flat_map-map}
use Rattle.std.proofs.lemmas.Result.{err_from_is_err_and}
use Rattle.kernel_model.specs.KernelRecord.Recovered.{packet_in, packets_at}
use Rattle.kernel_lists.specs.PacketQueue.Queue.{queue_at}
use Rattle.state_text.specs.PacketTexts.{packet_line, packet_lines}
use Rattle.state_text.proofs.GatheredLines.{lines-cut, lines-first, lines-next}
use Rattle.state_text.proofs.packets.gather_packets.Goals as goal

pub loop-p-init : goal.loop-p-init
loop-p-init g c =
    let s = c.args.store.now in
    let is = c.into_iter-p-iterator.ensures.into_iter_gives ∙ c.packets-p-items.ensures in
    record {
      so_far = lines-first (λ p. packet_line c.args.place (packet_in s p)) _ (packet_lines c.args.place (packets_at s c.args.head)) _ _ (ap (flat_map (λ p. packet_line c.args.place (packet_in s p))) is ∙ sym (flat_map-map (packet_line c.args.place) (packet_in s) (queue_at s c.args.head)));
      later = omega arith;
    }

pub returns-in_err-gather_packet-clause-text : goal.returns-in_err-gather_packet-clause-text
returns-in_err-gather_packet-clause-text g c =
    let s = c.args.store.now in
    let p = err_from_is_err_and c.from_residual.result c.from_residual.ensures.1 in
    rw p.1 (lines-cut (λ p. packet_line c.args.place (packet_in s p)) c.in-Some.p c.next.new.self c.loop-p.p-iterator (packet_lines c.args.place (packets_at s c.args.head)) c.in-Some.ensures.steps c.loop-p.invariant.so_far c.in_err-gather_packet.ensures.text)

pub loop-p-preserved : goal.loop-p-preserved
loop-p-preserved g c =
    let s = c.args.store.now in
    let kept = c.loop-p.invariant in
    record {
      so_far = lines-next (λ p. packet_line c.args.place (packet_in s p)) c.in-Some.p c.next.new.self c.loop-p.p-iterator (packet_lines c.args.place (packets_at s c.args.head)) c.in-Some.ensures.steps kept.so_far c.in_ok-gather_packet.ensures.text;
      later = omega (arith, kept.later, c.in_ok-gather_packet.ensures.cause.later);
    }
