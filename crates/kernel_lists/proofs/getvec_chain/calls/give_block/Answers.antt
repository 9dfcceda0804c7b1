use Rattle.std.proofs.Common.{◌∙◌, arith}
use Rattle.kernel_lists.proofs.GetvecChain.AfterGive.{after_give, given_store-is}
use Rattle.kernel_lists.proofs.GetvecChain.UsedBlocks.{used_at-is}
use Rattle.kernel_lists.proofs.getvec_chain.calls.give_block.Goals as goal

pub overflow_add-block : goal.overflow_add-block
overflow_add-block c =
    let u = used_at-is _ 200 _ _ _ c.requires.tiled c.requires.used in
    omega (arith, u.inside, u.some)

pub returns-clause-words : goal.returns-clause-words
returns-clause-words c = c.set.ensures.after ∙ given_store-is _ _ _ c.requires.tiled c.requires.used

pub returns-clause-blocks : goal.returns-clause-blocks
returns-clause-blocks c =
    (after_give _ _ _ _ c.requires.tiled c.requires.used (c.set.ensures.after ∙ given_store-is _ _ _ c.requires.tiled c.requires.used)).blocks

pub returns-clause-tiled : goal.returns-clause-tiled
returns-clause-tiled c =
    (after_give _ _ _ _ c.requires.tiled c.requires.used (c.set.ensures.after ∙ given_store-is _ _ _ c.requires.tiled c.requires.used)).tiled
