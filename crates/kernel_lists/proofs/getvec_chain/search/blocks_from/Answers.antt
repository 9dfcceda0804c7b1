use Rattle.std.proofs.Common.{ap, arith, length, subst, sym}
use Rattle.kernel_lists.specs.GetvecChain.Tiling.{IsTiledFrom}
use Rattle.kernel_lists.proofs.GetvecChain.Tilings.{Tiles-inside}
use Rattle.kernel_lists.proofs.getvec_chain.search.blocks_from.Goals as goal

pub overflow_sub-result : goal.overflow_sub-result
overflow_sub-result c = omega (arith, c.size.ensures, Tiles-inside _ _ _ c.requires)

pub invariant_of-result : goal.invariant_of-result
invariant_of-result c = (
  subst (λ s. IsTiledFrom s c.args.at) (sym c.all_words.ensures) c.requires,
  omega (arith, c.size.ensures, ap length c.all_words.ensures, Tiles-inside _ _ _ c.requires),
)
