use Rattle.std.proofs.Common.{◌≤◌}
use Rattle.kernel_model.specs.KernelRecord.Recovered.{packet_in, packets_at}
use Rattle.state_text.specs.PacketTexts.{packet_line, packet_lines}
use Rattle.state_text.proofs.GatheredLines.{IsSoFar}
use Rattle.state_text.proofs.packets.gather_packets.Given as goal

abbrev pub invariant-loop-p : goal.invariant-loop-p
invariant-loop-p g l = record {
  so_far : IsSoFar (λ p. packet_line l.place (packet_in l.store p)) l.p-iterator (packet_lines l.place (packets_at l.store l.head)) (g.K.Sink.holds l.fn.out) (g.K.Sink.holds l.out) l.fn.pending l.pending;
  later : g.K.Sink.faults l.fn.out ≤ g.K.Sink.faults l.out;
}
