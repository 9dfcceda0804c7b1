use Rattle.std.proofs.Common.{◌∙◌, [], ap, arith, cond, sym}
use Rattle.std.specs.List.{flat_map}
use Rattle.std.proofs.lemmas.List.Folds.{flat_map-map}
use Rattle.std.proofs.lemmas.Result.{err_from_is_err_and}
use Rattle.kernel_model.specs.KernelRecord.Recovered.{packet_in, packets_at}
use Rattle.kernel_lists.specs.PacketQueue.Queue.{queue_at}
use Rattle.state_text.specs.AwaitedPackets.{is_from, its_lines, its_packet_line}
use Rattle.state_text.proofs.GatheredLines.{lines-cut, lines-filter, lines-first, lines-next}
use Rattle.state_text.proofs.awaited.gather_sent.Goals as goal

pub loop-p-init : goal.loop-p-init
loop-p-init g c =
    let s = c.args.store.now in
    let is = c.into_iter-p-iterator.ensures.into_iter_gives ∙ c.packets-p-items.ensures in
    record {
      so_far = lines-first (λ p. cond (is_from c.args.id (packet_in s p)) (its_packet_line c.args.place (packet_in s p)) []) _ (its_lines c.args.id c.args.place (packets_at s c.args.head)) _ _ (ap (flat_map (λ p. cond (is_from c.args.id (packet_in s p)) (its_packet_line c.args.place (packet_in s p)) [])) is ∙ (sym (flat_map-map (λ q. cond (is_from c.args.id q) (its_packet_line c.args.place q) []) (packet_in s) (queue_at s c.args.head)) ∙ lines-filter (its_packet_line c.args.place) (is_from c.args.id) (packets_at s c.args.head)));
      later = omega arith;
    }

pub returns-in_err-gather_if_sent-clause-text : goal.returns-in_err-gather_if_sent-clause-text
returns-in_err-gather_if_sent-clause-text g c =
    let s = c.args.store.now in
    let p = err_from_is_err_and c.from_residual.result c.from_residual.ensures.1 in
    rw p.1 (lines-cut (λ p. cond (is_from c.args.id (packet_in s p)) (its_packet_line c.args.place (packet_in s p)) []) c.in-Some.p c.next.new.self c.loop-p.p-iterator (its_lines c.args.id c.args.place (packets_at s c.args.head)) c.in-Some.ensures.steps c.loop-p.invariant.so_far c.in_err-gather_if_sent.ensures.text)

pub loop-p-preserved : goal.loop-p-preserved
loop-p-preserved g c =
    let s = c.args.store.now in
    let kept = c.loop-p.invariant in
    record {
      so_far = lines-next (λ p. cond (is_from c.args.id (packet_in s p)) (its_packet_line c.args.place (packet_in s p)) []) c.in-Some.p c.next.new.self c.loop-p.p-iterator (its_lines c.args.id c.args.place (packets_at s c.args.head)) c.in-Some.ensures.steps kept.so_far c.in_ok-gather_if_sent.ensures.text;
      later = omega (arith, kept.later, c.in_ok-gather_if_sent.ensures.cause.later);
    }
