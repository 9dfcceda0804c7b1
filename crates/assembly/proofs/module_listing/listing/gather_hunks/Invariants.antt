use Rattle.std.proofs.Common.{◌≤◌, take}
use Rattle.byte_streams.specs.Pending.{IsGathered}
use Rattle.assembly.specs.ModuleListing.HunkListing.{listings_from}
use Rattle.assembly.proofs.module_listing.listing.gather_hunks.Given as goal

abbrev pub invariant-loop-i : goal.invariant-loop-i
invariant-loop-i g l = record {
  text : IsGathered (g.K.Sink.holds l.fn.out) (g.K.Sink.holds l.out) l.fn.pending l.pending (listings_from 1 (take l.i l.m.hunks));
  later : g.K.Sink.faults l.fn.out ≤ g.K.Sink.faults l.out;
}
