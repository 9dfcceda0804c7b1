use Rattle.std.proofs.Common.{sym, subst}
use Rattle.kernel_lists.specs.GetvecChain.Tiling.{blocks_in}
use Rattle.kernel_model.specs.KernelRecord.ValidBlocks.{HasBlock}
use Rattle.kernel_check.proofs.ListPasses.CoroutineWalks.{body-is, is-body}
use Rattle.kernel_check.proofs.list_passes.coroutine_pass.is_valid_body.Goals as goal

pub returns : goal.returns
returns c = (
  λ t. body-is c.args.store.now c.args.c c.word_at-highest.result c.word_at-highest.ensures c.if-highest-lt16.false
      (subst (HasBlock (blocks_in c.args.store.now) c.args.c) c.from.ensures (c.has_block.ensures.0 t)),
  λ b. c.has_block.ensures.1 (subst (HasBlock (blocks_in c.args.store.now) c.args.c) (sym c.from.ensures) (is-body c.args.store.now c.args.c c.word_at-highest.result c.word_at-highest.ensures b).1),
)
