use Rattle.std.proofs.Common.{◌≡◌}
use Rattle.std.specs.List.{list_any}
use Rattle.kernel_model.specs.KernelRecord.Recovered.{packet_in, packets_at}
use Rattle.state_text.specs.AwaitedPackets.{is_from}
use Rattle.state_text.proofs.sent.is_on_queue.Given as goal

abbrev pub invariant-loop-p : goal.invariant-loop-p
invariant-loop-p l = list_any (is_from l.id) (packets_at l.store l.head) ≡ list_any (λ p. is_from l.id (packet_in l.store p)) l.p-iterator
