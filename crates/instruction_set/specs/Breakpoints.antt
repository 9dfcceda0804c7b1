-- Breakpoints: byte addresses at which a run is to stop before the instruction there.
use Rattle.std.specs.Prelude.{ℕ, Bool, List, ◌==◌}
use Rattle.std.specs.List.{list_any}

-- the address is one of them
abbrev pub has_breakpoint : ℕ → List ℕ → Bool
has_breakpoint a breakpoints = list_any (λ b. b == a) breakpoints
