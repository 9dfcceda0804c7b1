use Rattle.std.proofs.Common.{subst}
use Rattle.kernel_model.specs.KernelRecord.KernelRanges.{packet_ranges, packets_at}
use Rattle.kernel_model.proofs.word_kinds.visits.show_packets.Goals as goal

pub returns : goal.returns
unfolding packet_ranges
returns g c =
    let both = g.met.V.Visitor.shown_both in
    both _ _ _ _ _ c.show_work.ensures
    (both _ _ _ _ _ (subst (λ a. g.V.Visitor.shown c.show_work.new.visitor c.show_queue.new.visitor (packets_at c.args.store.now a)) c.address.ensures c.show_queue.ensures)
    (both _ _ _ _ _ (subst (λ a. g.V.Visitor.shown c.show_queue.new.visitor c.show_queue-2.new.visitor (packets_at c.args.store.now a)) c.address-2.ensures c.show_queue-2.ensures)
    (both _ _ _ _ _ (subst (λ a. g.V.Visitor.shown c.show_queue-2.new.visitor c.show_queue-3.new.visitor (packets_at c.args.store.now a)) c.address-3.ensures c.show_queue-3.ensures)
    c.show_pending.ensures)))
