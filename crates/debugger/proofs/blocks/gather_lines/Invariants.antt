use Rattle.std.proofs.Common.{◌≤◌, ◌<◌, ◌+◌, ◌^◌}
use Rattle.std.specs.List.{AllByRecursion}
use Rattle.kernel_model.specs.KernelRecord.HoldsLists.{HoldsLists}
use Rattle.kernel_model.specs.KernelRecord.Lists.{Lists}
use Rattle.debugger.proofs.BlockLines.{IsBlocksSoFar}
use Rattle.debugger.proofs.blocks.gather_lines.Given as goal

abbrev pub invariant-loop-block : goal.invariant-loop-block
invariant-loop-block g l = record {
  so_far : (k : Lists) → HoldsLists l.store k → IsBlocksSoFar k l.block-iterator (g.K.Sink.holds l.fn.out) (g.K.Sink.holds l.out) l.fn.pending l.pending;
  inside : AllByRecursion (λ b. b.start + 1 < 2 ^ 32) l.block-iterator;
  later : g.K.Sink.faults l.fn.out ≤ g.K.Sink.faults l.out;
}
