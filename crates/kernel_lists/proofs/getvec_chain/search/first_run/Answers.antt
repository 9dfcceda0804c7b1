use Rattle.std.proofs.Common.{◌∙◌, ℕ, ◌<◌, arith}
use Rattle.kernel_lists.specs.GetvecChain.Run.{need}
use Rattle.kernel_lists.proofs.GetvecChain.Runs.{need-even}
use Rattle.kernel_lists.proofs.GetvecChain.OpenRun.{at_block, opened, step-used}
use Rattle.kernel_lists.proofs.getvec_chain.search.first_run.Goals as goal

some : (u : ℕ) → 0 < need u
some u = omega (arith, (need-even u).0)

pub loop-block-init : goal.loop-block-init
loop-block-init c = (200, opened _ _ _ _ _ (some c.args.u) c.requires (c.into_iter-block-iterator.ensures.into_iter_gives ∙ c.blocks-block-items.ensures.blocks))

pub end-start-requires : goal.end-start-requires
end-start-requires c = omega (arith, (at_block _ _ _ _ _ _ _ c.loop-block.invariant.1 c.in-Some.ensures.steps).inside, c.blocks-block-items.ensures.addresses)

pub loop-block-preserved : goal.loop-block-preserved
loop-block-preserved c =
    let here = at_block _ _ _ _ _ _ _ c.loop-block.invariant.1 c.in-Some.ensures.steps in (
      c.end-start.result,
      step-used _ _ _ _ _ _ _ (some c.args.u) here c.if-block.false (omega (arith, here.start, c.if-need-from.false, c.words_needed-need.ensures, c.from.ensures)) c.end-start.ensures,
    )
