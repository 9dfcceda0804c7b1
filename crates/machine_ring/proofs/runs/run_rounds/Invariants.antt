use Rattle.std.proofs.Common.{◌≡◌, ◌-◌, ◌≤◌}
use Rattle.byte_streams.specs.Pending.{IsGathered}
use Rattle.machine_ring.specs.Rings.{ring_with}
use Rattle.machine_ring.specs.Runs.{run}
use Rattle.machine_ring.proofs.runs.run_rounds.Given as goal

abbrev pub invariant-loop-right : goal.invariant-loop-right
invariant-loop-right g l = record {
  ran : record { left = l.left; link = l.link; right = l.right.state } ≡ (run l.link.rounds (ring_with l.fn.left l.fn.link l.fn.right.state)).ring;
  few : l.link.rounds ≤ l.fn.link.terms.rounds;
  terms : l.link.terms ≡ l.fn.link.terms;
  gathered : IsGathered (g.K.Sink.holds l.fn.out) (g.K.Sink.holds l.out) l.fn.pending l.pending (run l.link.rounds (ring_with l.fn.left l.fn.link l.fn.right.state)).shown;
  later : g.K.Sink.faults l.fn.out ≤ g.K.Sink.faults l.out;
}

abbrev pub decreases-loop-right : goal.decreases-loop-right
decreases-loop-right g l = l.fn.link.terms.rounds - l.link.rounds
