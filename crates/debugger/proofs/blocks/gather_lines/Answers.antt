use Rattle.std.proofs.Common.{◌∙◌, ◌<◌, ◌+◌, ◌^◌, sym, subst, arith}
use Rattle.std.specs.List.{AllByRecursion}
use Rattle.std.proofs.lemmas.Result.{err_from_is_err_and}
use Rattle.kernel_lists.specs.GetvecChain.Tiling.{blocks_in}
use Rattle.debugger.proofs.BlockLines.{blocks-cut, blocks-first, blocks-next, tiles-inside}
use Rattle.debugger.proofs.KernelLists.{blocks-back, is-tiled}
use Rattle.debugger.proofs.blocks.gather_lines.Goals as goal

pub blocks-block-items-requires : goal.blocks-block-items-requires
blocks-block-items-requires g c = is-tiled c.args.store.now c.requires.0 c.requires.1

pub loop-block-init : goal.loop-block-init
loop-block-init g c =
    let s = c.args.store.now in
    let is = c.into_iter-block-iterator.ensures.into_iter_gives ∙ c.blocks-block-items.ensures.blocks in
    record {
      so_far = λ k h. blocks-first k _ _ _ (is ∙ blocks-back s k h);
      inside = subst (AllByRecursion (λ b. b.start + 1 < 2 ^ 32)) (sym is) (tiles-inside s 200 (blocks_in s) c.blocks-block-items.ensures.addresses (is-tiled s c.requires.0 c.requires.1));
      later = omega arith;
    }

pub returns-in_err-gather_block-clause-text : goal.returns-in_err-gather_block-clause-text
returns-in_err-gather_block-clause-text g c =
    let p = err_from_is_err_and c.from_residual.result c.from_residual.ensures.1 in
    λ l h. rw p.1 (blocks-cut l c.in-Some.block c.next.new.self c.loop-block.block-iterator c.in-Some.ensures.steps (c.loop-block.invariant.so_far l h) c.use_of.result (c.use_of.ensures l h) c.in_err-gather_block.ensures.text)

pub loop-block-preserved : goal.loop-block-preserved
loop-block-preserved g c =
    let kept = c.loop-block.invariant in
    record {
      so_far = λ k h. blocks-next k c.in-Some.block c.next.new.self c.loop-block.block-iterator c.in-Some.ensures.steps (kept.so_far k h) c.use_of.result (c.use_of.ensures k h) c.in_ok-gather_block.ensures.text;
      inside = (subst (AllByRecursion (λ b. b.start + 1 < 2 ^ 32)) c.in-Some.ensures.steps kept.inside).1;
      later = omega (arith, kept.later, c.in_ok-gather_block.ensures.cause.later);
    }
