use Rattle.std.proofs.Common.{◌≡◌, ◌++◌}
use Rattle.kernel_lists.specs.GetvecChain.Tiling.{blocks_from}
use Rattle.kernel_model.specs.WordKinds.Private.ToldWords.{WasReleased}
use Rattle.kernel_calls.specs.BlockCalls.Private.JoinedStarts.{joined_starts}
use Rattle.kernel_calls.proofs.block_calls.keeper.release_joined.Given as goal

abbrev pub invariant-loop-block : goal.invariant-loop-block
invariant-loop-block g l =
    WasReleased (g.Q.KindKeeper.tells l.fn.kinds) (g.Q.KindKeeper.tells l.kinds) (joined_starts l.run l.yielded)
    × (g.Q.KindKeeper.room l.kinds ≡ g.Q.KindKeeper.room l.fn.kinds)
    × (blocks_from l.store l.run.start ≡ l.yielded ++ l.block-iterator)
