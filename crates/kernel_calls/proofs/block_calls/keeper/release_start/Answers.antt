use Rattle.std.proofs.Common.{[], ◌∷◌, cond, sym, ◌∙◌, subst}
use Rattle.kernel_model.specs.WordKinds.Private.ToldWords.{WasReleased}
use Rattle.kernel_model.proofs.WordKinds.ToldWords.{released-none, released-one}
use Rattle.kernel_calls.proofs.block_calls.keeper.release_start.Goals as goal

pub returns-then-not-is_joined-clause-released : goal.returns-then-not-is_joined-clause-released
returns-then-not-is_joined-clause-released g c =
    subst (λ b. WasReleased (g.Q.KindKeeper.tells c.args.kinds.now) (g.Q.KindKeeper.tells c.args.kinds.now) (cond b (c.args.block.start ∷ []) []))
    (sym c.if-not-is_joined.true ∙ c.is_joined.ensures) (released-none (g.Q.KindKeeper.tells c.args.kinds.now))

pub returns-clause-released : goal.returns-clause-released
returns-clause-released g c =
    subst (λ b. WasReleased (g.Q.KindKeeper.tells c.args.kinds.now) (g.Q.KindKeeper.tells c.release.new.self) (cond b (c.args.block.start ∷ []) []))
    (sym c.if-not-is_joined.false ∙ c.is_joined.ensures)
    (released-one (g.Q.KindKeeper.tells c.args.kinds.now) (g.Q.KindKeeper.tells c.release.new.self) c.args.block.start c.release.ensures.tells)
