use Rattle.std.proofs.Common.{◌∷◌, [], subst}
use Rattle.kernel_lists.specs.HunkLoader.ModuleHunks.{hunk_count}
use Rattle.kernel_model.specs.KernelRecord.KernelRanges.{words}
use Rattle.kernel_model.proofs.word_kinds.visits.show_module.Goals as goal

pub returns : goal.returns
returns g c =
    g.met.V.Visitor.shown_both _ _ _ _ _ c.show.ensures
    (subst (λ a. g.V.Visitor.shown c.show.new.self c.show-2.new.self (words a (hunk_count c.args.store.now c.args.m) ∷ [])) c.address_of.ensures
    (subst (λ n. g.V.Visitor.shown c.show.new.self c.show-2.new.self (words c.address_of.result n ∷ [])) c.word_at.ensures c.show-2.ensures))
