-- Rings, which keep the last of what comes.
use Rattle.std.specs.Prelude.{List, ◌++◌}
use Rattle.circular_buffer.specs.Buffer.{Buffer, buffer, keep_last}

-- the ring once these items came after its own: of all of them the last, as many as there is room for
abbrev pub ring_with : {X : Type 0} → Buffer X → List X → Buffer X
ring_with ring items = buffer (keep_last ring.capacity (ring.items ++ items)) ring.capacity
