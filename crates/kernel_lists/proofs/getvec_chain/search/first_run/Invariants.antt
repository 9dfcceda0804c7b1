use Rattle.kernel_lists.specs.GetvecChain.Run.{first_run, need}
use Rattle.kernel_lists.specs.GetvecChain.Tiling.{blocks_in}
use Rattle.kernel_lists.proofs.GetvecChain.OpenRun.{IsOpenFrom}
use Rattle.kernel_lists.proofs.getvec_chain.search.first_run.Given as goal

abbrev pub invariant-loop-block : goal.invariant-loop-block
invariant-loop-block l = IsOpenFrom l.store (need l.u) (first_run (need l.u) (blocks_in l.store)) l.start l.block-iterator
