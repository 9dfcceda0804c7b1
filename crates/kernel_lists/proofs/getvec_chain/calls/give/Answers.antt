use Rattle.std.proofs.Common.{◌≡◌, ◌∙◌, Option, Some, None, Ok, ap}
use Rattle.std.specs.Option.{ok_or}
use Rattle.kernel_lists.specs.declared.getvec_chain.pieces.Block.{Block}
use Rattle.kernel_lists.specs.GetvecChain.Give.{given, given_store}
use Rattle.kernel_lists.specs.GetvecChain.Tiling.{blocks_in}
use Rattle.kernel_lists.proofs.GetvecChain.UsedBlocks.{used_at-found, used_at-is}
use Rattle.kernel_lists.specs.declared.getvec_chain.calls.NotABlock.{NotABlock}
use Rattle.kernel_lists.proofs.getvec_chain.calls.give.Goals as goal

found : (o p : Option Block) (b : Block) (e : NotABlock) → Ok b ≡ ok_or o e → o ≡ p → p ≡ Some b
found None p b e is same = cc
found (Some a) p b e is same = cc

pub give_block-requires : goal.give_block-requires
give_block-requires c =
    let is = found _ _ _ _ c.in_ok-block.ensures.value c.used_at.ensures in
    record { tiled = c.requires; used = used_at-found _ 200 _ _ _ c.requires is }

pub returns-clause-words : goal.returns-clause-words
returns-clause-words c =
    let is = found _ _ _ _ c.in_ok-block.ensures.value c.used_at.ensures in
    c.give_block.ensures.words ∙ ap (given_store c.args.store.now) (used_at-is _ 200 _ _ _ c.requires is).start

pub returns-clause-blocks : goal.returns-clause-blocks
returns-clause-blocks c =
    let is = found _ _ _ _ c.in_ok-block.ensures.value c.used_at.ensures in
    c.give_block.ensures.blocks ∙ ap (λ v. given v (blocks_in c.args.store.now)) (used_at-is _ 200 _ _ _ c.requires is).start
