use Rattle.std.proofs.Common.{◌∷◌, [], subst}
use Rattle.kernel_model.specs.KernelRecord.KernelRanges.{words}
use Rattle.kernel_model.proofs.word_kinds.visits.show_task.Goals as goal

pub returns : goal.returns
returns g c =
    g.met.V.Visitor.shown_both _ _ _ _ _
    (subst (λ n. g.V.Visitor.shown c.args.visitor.now c.show.new.self (words c.args.t n ∷ [])) c.task_size.ensures c.show.ensures) c.show_coroutines.ensures
