use Rattle.std.proofs.Common.{rules}
use borrow.Author.Tests.{tests}
use Rattle.kernel_lists.specs.GetvecChain.Block.{is_used_at}
use Rattle.kernel_lists.proofs.GetvecChain.FirstFound.{found-first}
use Rattle.kernel_lists.proofs.getvec_chain.search.used_at.Goals as goal

pub returns : goal.returns
returns c = found-first (is_used_at c.args.v) _ _ _ c.find.result c.find.ensures.ran c.blocks-2.ensures.blocks (λ x b q k. search (rules, tests))
