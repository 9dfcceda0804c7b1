use Rattle.std.proofs.Common.{◌-◌, ◌∷◌, [], subst}
use Rattle.kernel_model.specs.KernelRecord.KernelRanges.{list_ranges, words}
use Rattle.kernel_model.proofs.word_kinds.visits.show_lists.Goals as goal

pub returns : goal.returns
unfolding list_ranges
returns g c =
    let both = g.met.V.Visitor.shown_both in
    both _ _ _ _ _
    (both _ _ _ _ _ c.show.ensures (subst (λ n. g.V.Visitor.shown c.show.new.self c.show-2.new.self (words (n - 2) 1 ∷ [])) c.size.ensures c.show-2.ensures))
    (both _ _ _ _ _ c.show_blocks.ensures
    (both _ _ _ _ _ c.show_tasks.ensures
    (both _ _ _ _ _ c.show_modules.ensures
    (both _ _ _ _ _ c.show_console.ensures c.show_fault_packet.ensures))))
