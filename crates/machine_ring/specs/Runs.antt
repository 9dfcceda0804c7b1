-- Rounds of a ring, one after another.
use Rattle.std.specs.Prelude.{ℕ, zero, suc, if◌then◌else◌, is_some, [], ◌++◌}
use Rattle.tripos_machine.specs.State.{stop_of}
use Rattle.machine_ring.specs.Rings.{Ring}
use Rattle.machine_ring.specs.Rounds.{Rounded, round}

-- none
abbrev pub no_rounds : Ring → Rounded
no_rounds r = record { ring = r; shown = []; offered = []; delivered = [] }

-- first the one, and then what follows on it
abbrev pub and_then : Rounded → (Ring → Rounded) → Rounded
and_then x next = record {
  ring = (next x.ring).ring;
  shown = x.shown ++ (next x.ring).shown;
  offered = x.offered ++ (next x.ring).offered;
  delivered = x.delivered ++ (next x.ring).delivered;
}

-- at most n, up to the round in which the right machine stops
unfoldable pub run : ℕ → Ring → Rounded
run zero r = no_rounds r
run (suc n) r = if is_some (stop_of r.right) then no_rounds r else and_then (round r) (run n)
