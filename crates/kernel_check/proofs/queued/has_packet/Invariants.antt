use Rattle.std.proofs.Common.{◌≡◌, eqb}
use Rattle.std.specs.List.{list_any}
use Rattle.kernel_check.proofs.QueuedPackets.{has_in}
use Rattle.kernel_check.proofs.queued.has_packet.Given as goal

abbrev pub invariant-loop-q : goal.invariant-loop-q
invariant-loop-q l = has_in l.store l.head l.p ≡ list_any (λ q. eqb q l.p) l.q-iterator
