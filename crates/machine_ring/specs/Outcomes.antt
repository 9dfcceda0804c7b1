-- What a run of a ring comes to.
use Rattle.std.specs.Prelude.{length}
use Rattle.tripos_machine.specs.Runs.{end_of_run}
use Rattle.tripos_machine.specs.State.{stop_of}
use Rattle.machine_ring.specs.Rounds.{Rounded}
use Rattle.machine_ring.specs.declared.outcomes.RingOutcome.{RingOutcome}

-- the numbers that a run of a ring ends with, and why it ends
abbrev pub outcome_of : Rounded → RingOutcome
outcome_of x = record {
  rounds = x.ring.link.rounds;
  sent = length x.offered;
  delivered = x.ring.link.received;
  acknowledged = x.ring.link.sender.acknowledged;
  end = end_of_run (stop_of x.ring.right);
}
