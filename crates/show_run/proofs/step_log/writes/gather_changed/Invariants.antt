use Rattle.std.proofs.Common.{◌≤◌, ℕ, List}
use Rattle.byte_streams.specs.Pending.{IsGathered}
use Rattle.tripos_machine.specs.GuestWrites.{is_kernels}
use Rattle.tripos_machine.specs.State.{words_of}
use Rattle.show_run.proofs.StepLog.ChangedLines.{AreChangedSoFar}
use Rattle.show_run.proofs.step_log.writes.gather_changed.Given as goal

-- the lines of the words so far were gathered
abbrev pub invariant-loop-a : goal.invariant-loop-a
invariant-loop-a g l =
    (bytes : List ℕ)
    × record {
      so_far : AreChangedSoFar l.m (is_kernels l.machine.state) l.former (words_of l.machine.state) l.a bytes;
      gathered : IsGathered (g.K.Sink.holds l.fn.out) (g.K.Sink.holds l.out) l.fn.pending l.pending bytes;
      later : g.K.Sink.faults l.fn.out ≤ g.K.Sink.faults l.out;
    }
