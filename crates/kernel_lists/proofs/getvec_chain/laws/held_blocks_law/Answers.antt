use Rattle.kernel_lists.proofs.GetvecChain.BlockExchanges.{held-IsTiled, held-blocks_in}
use Rattle.kernel_lists.proofs.getvec_chain.laws.held_blocks_law.Goals as goal

pub returns-clause-tiled : goal.returns-clause-tiled
returns-clause-tiled c = held-IsTiled

pub returns-clause-blocks : goal.returns-clause-blocks
returns-clause-blocks c = held-blocks_in
