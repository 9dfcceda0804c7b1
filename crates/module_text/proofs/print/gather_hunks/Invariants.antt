use Rattle.std.proofs.Common.{◌≤◌, take}
use Rattle.std.specs.List.{flat_map}
use Rattle.byte_streams.specs.Pending.{IsGathered}
use Rattle.module_text.specs.Canonical.{text_of_hunk}
use Rattle.module_text.proofs.print.gather_hunks.Given as goal

abbrev pub invariant-loop-hunk : goal.invariant-loop-hunk
invariant-loop-hunk g l = record {
  text : IsGathered (g.K.Sink.holds l.fn.out) (g.K.Sink.holds l.out) l.fn.pending l.pending (flat_map text_of_hunk (take l.hunk-index l.hunks));
  later : g.K.Sink.faults l.fn.out ≤ g.K.Sink.faults l.out;
}
