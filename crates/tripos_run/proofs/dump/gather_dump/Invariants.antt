use Rattle.std.proofs.Common.{◌≤◌, ℕ, List}
use Rattle.byte_streams.specs.Pending.{IsGathered}
use Rattle.tripos_run.proofs.DumpLines.{IsDumpSoFar}
use Rattle.tripos_run.proofs.dump.gather_dump.Given as goal

abbrev pub invariant-loop-a : goal.invariant-loop-a
invariant-loop-a g l =
    (bytes : List ℕ)
    × record {
      so_far : IsDumpSoFar l.words l.a bytes;
      gathered : IsGathered (g.K.Sink.holds l.fn.out) (g.K.Sink.holds l.out) l.fn.pending l.pending bytes;
      later : g.K.Sink.faults l.fn.out ≤ g.K.Sink.faults l.out;
    }
