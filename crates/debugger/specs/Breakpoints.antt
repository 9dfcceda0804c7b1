-- The addresses at which a run is to stop, each once, in the order in which they came.
use Rattle.std.specs.Prelude.{ℕ, ◌==◌, ◌&&◌, Bool, not, if◌then◌else◌, List, [], ◌∷◌, ◌++◌, filter, length, nat_le}
use Rattle.instruction_set.specs.Breakpoints.{has_breakpoint}

-- the most breakpoints that there can be at one time
abbrev pub most_breakpoints : ℕ
most_breakpoints = 16

-- there is no room for one more that is not there
abbrev pub is_full_for : ℕ → List ℕ → Bool
is_full_for a stops = not (has_breakpoint a stops) && nat_le most_breakpoints (length stops)

-- the breakpoints with one more, where it is new and there is room
abbrev pub with_breakpoint : ℕ → List ℕ → List ℕ
with_breakpoint a stops =
    if has_breakpoint a stops then stops else
    if nat_le most_breakpoints (length stops) then stops else
    stops ++ a ∷ []

-- the breakpoints without the one at this address
abbrev pub without_breakpoint : ℕ → List ℕ → List ℕ
without_breakpoint a stops = filter (λ b. not (b == a)) stops
