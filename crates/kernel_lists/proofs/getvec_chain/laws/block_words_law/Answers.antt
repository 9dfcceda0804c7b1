use Rattle.kernel_lists.proofs.GetvecChain.BlockExchanges.{take-exchange, give-exchange}
use Rattle.kernel_lists.proofs.getvec_chain.laws.block_words_law.Goals as goal

pub returns-clause-take : goal.returns-clause-take
returns-clause-take c = take-exchange

pub returns-clause-give : goal.returns-clause-give
returns-clause-give c = give-exchange
