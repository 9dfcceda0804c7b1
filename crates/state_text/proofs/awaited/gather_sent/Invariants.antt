use Rattle.std.proofs.Common.{◌≤◌, [], cond}
use Rattle.kernel_model.specs.KernelRecord.Recovered.{packet_in, packets_at}
use Rattle.state_text.specs.AwaitedPackets.{is_from, its_lines, its_packet_line}
use Rattle.state_text.proofs.GatheredLines.{IsSoFar}
use Rattle.state_text.proofs.awaited.gather_sent.Given as goal

abbrev pub invariant-loop-p : goal.invariant-loop-p
invariant-loop-p g l = record {
  so_far : IsSoFar (λ p. cond (is_from l.id (packet_in l.store p)) (its_packet_line l.place (packet_in l.store p)) []) l.p-iterator (its_lines l.id l.place (packets_at l.store l.head)) (g.K.Sink.holds l.fn.out) (g.K.Sink.holds l.out) l.fn.pending l.pending;
  later : g.K.Sink.faults l.fn.out ≤ g.K.Sink.faults l.out;
}
