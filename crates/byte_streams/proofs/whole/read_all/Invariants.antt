use Rattle.std.proofs.Common.{◌≡◌, ◌≤◌, ◌+◌, ◌-◌, length, vec_len}
use Rattle.std.specs.Io.KnownBytes.{Consumes}
use Rattle.byte_streams.proofs.whole.read_all.Given as goal

abbrev pub invariant-loop-chunk : goal.invariant-loop-chunk
invariant-loop-chunk g l = record {
  taken : Consumes (g.S.Source.left l.fn.src) (g.S.Source.left l.src) l.bytes.items;
  short : vec_len l.bytes ≤ l.limit + 1;
  chunk : length l.chunk ≡ 4096;
  faults : g.S.Source.faults l.src ≡ g.S.Source.faults l.fn.src;
  calls : g.S.Source.calls l.src ≤ g.S.Source.calls l.fn.src + vec_len l.bytes;
}

abbrev pub decreases-loop-chunk : goal.decreases-loop-chunk
decreases-loop-chunk g l = l.limit + 1 - vec_len l.bytes
