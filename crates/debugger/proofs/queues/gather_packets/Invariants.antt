use Rattle.std.proofs.Common.{◌≡◌, ◌≤◌, ℕ, List, ◌++◌, map}
use Rattle.byte_streams.specs.Pending.{IsGathered}
use Rattle.kernel_model.specs.KernelRecord.Recovered.{packet_in, packets_at}
use Rattle.debugger.specs.Texts.{packet_lines}
use Rattle.debugger.proofs.queues.gather_packets.Given as goal

abbrev pub invariant-loop-p : goal.invariant-loop-p
invariant-loop-p g l =
    (front : List ℕ)
    × record {
      all : front ++ packet_lines (map (packet_in l.store) l.p-iterator) ≡ packet_lines (packets_at l.store l.head);
      text : IsGathered (g.K.Sink.holds l.fn.out) (g.K.Sink.holds l.out) l.fn.pending l.pending front;
      later : g.K.Sink.faults l.fn.out ≤ g.K.Sink.faults l.out;
    }
