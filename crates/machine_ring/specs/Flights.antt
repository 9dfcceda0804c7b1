-- The packets that are in flight in one direction, the one that was sent first at the front, and what a letter does to them.
use Rattle.std.specs.Prelude.{ℕ, ◌-◌, ◌==◌, ◌||◌, if◌then◌else◌, Option, Some, None, List, [], ◌∷◌, ◌++◌, drop, length, nat_lt, slice_get, take}
use Rattle.circular_buffer.specs.Buffer.{last_item}
use Rattle.machine_ring.specs.declared.flights.TheConstants.{MOST_IN_FLIGHT}

module _ {P : Type 0} where
  -- a packet is sent: where the direction is full it is lost
  abbrev pub with_packet : P → List P → List P
  with_packet p ps = if nat_lt (length ps) MOST_IN_FLIGHT then ps ++ p ∷ [] else ps

  -- the same, where one is sent
  abbrev pub with_any_packet : Option P → List P → List P
  with_any_packet None ps = ps
  with_any_packet (Some p) ps = with_packet p ps

  -- The packet that comes: at `D` and at `R` the oldest, and at `O` the newest. At the other letters none comes.
  abbrev pub coming : ℕ → List P → Option P
  coming letter ps =
      if (letter == 68) || (letter == 82) then slice_get ps 0 else if letter == 79 then last_item ps else None

  -- The packets that stay in flight: at `D` and at `X` the oldest leaves, at `R` it goes to the back, and at `O` the newest leaves. At
  -- the other letters all stay.
  abbrev pub staying : ℕ → List P → List P
  staying letter ps =
      if (letter == 68) || (letter == 88) then drop 1 ps else
      if letter == 82 then drop 1 ps ++ take 1 ps else if letter == 79 then take (length ps - 1) ps else ps
