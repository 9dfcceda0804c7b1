use Rattle.std.proofs.Common.{◌++◌, append-nil, append_assoc, ap, sym, ◌∙◌, subst}
use Rattle.kernel_model.specs.WordKinds.Private.ToldWords.{WasReleased}
use Rattle.kernel_calls.specs.BlockCalls.Private.JoinedStarts.{joined_starts}
use Rattle.kernel_calls.proofs.BlockCalls.JoinedRuns.{joined-more, joined-so_far}
use Rattle.kernel_model.proofs.WordKinds.ToldWords.{released-both}
use Rattle.kernel_calls.proofs.block_calls.keeper.release_joined.Goals as goal

pub returns-then-block-run-clause-released : goal.returns-then-block-run-clause-released
returns-then-block-run-clause-released g c =
    subst (WasReleased (g.Q.KindKeeper.tells c.args.kinds.now) (g.Q.KindKeeper.tells c.loop-block.kinds))
    (sym (joined-so_far c.args.store.now c.args.run c.args.run.start c.loop-block.yielded _ c.in-Some.block _ c.requires c.loop-block.invariant.2 c.in-Some.ensures.steps c.if-block-run.true))
    c.loop-block.invariant.0

pub loop-block-preserved : goal.loop-block-preserved
loop-block-preserved g c = (
  subst (WasReleased (g.Q.KindKeeper.tells c.args.kinds.now) (g.Q.KindKeeper.tells c.release_start.new.kinds)) (joined-more c.args.run c.loop-block.yielded c.in-Some.block)
      (released-both (g.Q.KindKeeper.tells c.args.kinds.now) (g.Q.KindKeeper.tells c.loop-block.kinds) (g.Q.KindKeeper.tells c.release_start.new.kinds) _ _ c.loop-block.invariant.0 c.release_start.ensures.released),
  c.release_start.ensures.room ∙ c.loop-block.invariant.1,
  c.loop-block.invariant.2 ∙ ap (λ z. c.loop-block.yielded ++ z) c.in-Some.ensures.steps ∙ simp append_assoc,
)

pub returns-clause-released : goal.returns-clause-released
returns-clause-released g c =
    subst (WasReleased (g.Q.KindKeeper.tells c.args.kinds.now) (g.Q.KindKeeper.tells c.loop-block.kinds))
    (ap (joined_starts c.args.run) (sym (c.loop-block.invariant.2 ∙ ap (λ z. c.loop-block.yielded ++ z) c.in-None.ensures.steps.0 ∙ append-nil c.loop-block.yielded)))
    c.loop-block.invariant.0
