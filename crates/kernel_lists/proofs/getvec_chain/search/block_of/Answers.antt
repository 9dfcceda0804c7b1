use Rattle.std.proofs.Common.{◌∙◌, Some, None, cond, sym, ap, arith}
use Rattle.kernel_lists.proofs.GetvecChain.UsedBlocks.{sought-first, sought-inside, sought-last, sought-on}
use Rattle.kernel_lists.proofs.getvec_chain.search.block_of.Goals as goal

pub loop-block-init : goal.loop-block-init
loop-block-init c = sought-first _ _ 200 _ _ c.requires (c.into_iter-block-iterator.ensures.into_iter_gives ∙ c.blocks-block-items.ensures.blocks)

pub end-requires : goal.end-requires
end-requires c = omega (arith, sought-inside _ _ _ _ _ _ c.loop-block.invariant c.in-Some.ensures.steps, c.blocks-block-items.ensures.addresses)

pub loop-block-preserved : goal.loop-block-preserved
loop-block-preserved c = sought-on _ _ _ _ _ _ c.loop-block.invariant c.in-Some.ensures.steps (omega arith)

pub returns-else-has_data : goal.returns-else-has_data
returns-else-has_data c =
    sym (sought-last _ _ _ _ _ _ c.loop-block.invariant c.in-Some.ensures.steps (omega arith) ∙ ap (λ x. cond x (Some c.in-Some.block) None) (sym c.has_data.ensures ∙ c.if-has_data.false))
