use Rattle.std.proofs.Common.{◌≤◌, ℕ, List}
use Rattle.byte_streams.specs.Pending.{IsGathered}
use Rattle.debugger.proofs.WordLines.{IsWordsSoFar}
use Rattle.debugger.proofs.words.gather_lines.Given as goal

abbrev pub invariant-loop-i : goal.invariant-loop-i
invariant-loop-i g l =
    (bytes : List ℕ)
    × record {
      so_far : IsWordsSoFar l.from l.words l.i bytes;
      gathered : IsGathered (g.K.Sink.holds l.fn.out) (g.K.Sink.holds l.out) l.fn.pending l.pending bytes;
      later : g.K.Sink.faults l.fn.out ≤ g.K.Sink.faults l.out;
    }
