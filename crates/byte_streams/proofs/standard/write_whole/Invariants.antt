use Rattle.std.proofs.Common.{◌≤◌, length, take}
use Rattle.std.specs.Io.KnownBytes.{Appends}
use Rattle.byte_streams.proofs.standard.write_whole.Given as goal

abbrev pub invariant-loop : goal.invariant-loop
invariant-loop g l = record {
  inside : l.at ≤ length l.piece;
  sent : Appends (g.W.Write.contents l.fn.writer) (g.W.Write.contents l.writer) (take l.at l.piece);
}
