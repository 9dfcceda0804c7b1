use Rattle.std.proofs.Common.{◌∙◌, ◌++◌, [], ap, arith, append_assoc, map, sym, subst}
use Rattle.std.proofs.lemmas.Result.{err_from_is_err_and}
use Rattle.byte_streams.specs.Pending.{IsCut}
use Rattle.byte_streams.proofs.GatheredTexts.{IsCut-more, IsCut-then, IsGathered-nothing, IsGathered-then}
use Rattle.kernel_model.specs.KernelRecord.Recovered.{packet_in}
use Rattle.debugger.specs.Texts.{packet_line, packet_lines}
use Rattle.debugger.proofs.queues.gather_packets.Goals as goal

pub loop-p-init : goal.loop-p-init
loop-p-init g c =
    let all = ap (λ ps. packet_lines (map (packet_in c.args.store.now) ps)) (c.into_iter-p-iterator.ensures.into_iter_gives ∙ c.packets-p-items.ensures) in
    ([], record { all = all; text = IsGathered-nothing _ _; later = omega arith })

pub returns-in_err-gather_packet-clause-text : goal.returns-in_err-gather_packet-clause-text
returns-in_err-gather_packet-clause-text g c =
    let holds = g.K.Sink.holds in
    let s = c.args.store.now in
    let kept = c.loop-p.invariant.1 in
    let p = err_from_is_err_and c.from_residual.result c.from_residual.ensures.1 in
    let all = ap (λ ps. c.loop-p.invariant.0 ++ packet_lines (map (packet_in s) ps)) (sym c.in-Some.ensures.steps) ∙ kept.all in
    rw p.1
    (subst (IsCut (holds c.args.out.now) (holds c.gather_packet.new.out) c.args.pending.now) all (IsCut-then kept.text (IsCut-more (packet_lines (map (packet_in s) c.next.new.self)) c.in_err-gather_packet.ensures.text)))

pub loop-p-preserved : goal.loop-p-preserved
loop-p-preserved g c =
    let s = c.args.store.now in
    let front = c.loop-p.invariant.0 in
    let kept = c.loop-p.invariant.1 in
    let line = packet_line (packet_in s c.in-Some.p) in
    let all = ap (λ ps. front ++ packet_lines (map (packet_in s) ps)) (sym c.in-Some.ensures.steps) ∙ kept.all in (
      front ++ line,
      record {
        all = append_assoc front line (packet_lines (map (packet_in s) c.next.new.self)) ∙ all;
        text = IsGathered-then kept.text c.in_ok-gather_packet.ensures.text;
        later = omega (arith, kept.later, c.in_ok-gather_packet.ensures.cause.later);
      },
    )
