use Rattle.std.proofs.Common.{◌≤◌, take}
use Rattle.std.specs.List.{flat_map}
use Rattle.byte_streams.specs.Pending.{IsGathered}
use Rattle.byte_streams.specs.Pieces.{text_of}
use Rattle.byte_streams.proofs.pieces.gather_pieces.Given as goal

abbrev pub invariant-loop-piece : goal.invariant-loop-piece
invariant-loop-piece g l = record {
  text : IsGathered (g.K.Sink.holds l.fn.out) (g.K.Sink.holds l.out) l.fn.pending l.pending (flat_map text_of (take l.piece-index l.pieces));
  later : g.K.Sink.faults l.fn.out ≤ g.K.Sink.faults l.out;
}
