-- A breakpoint that is set for a moment.
use Rattle.std.proofs.Common.{◌≡◌, ◌==◌, ℕ, Bool, true, false, not, List, [], ◌∷◌, ◌++◌, filter, refl, ap, rules, if◌then◌else◌}
use Rattle.instruction_set.specs.Breakpoints.{has_breakpoint}
use Rattle.debugger.specs.Breakpoints.{is_full_for, with_breakpoint, without_breakpoint}

-- breakpoints among which an address is not, before it
before_one : (a : ℕ) (stops : List ℕ) → has_breakpoint a stops ≡ false → without_breakpoint a (stops ++ a ∷ []) ≡ stops
before_one a [] none = search rules
before_one a (b ∷ stops) none = search (rules, before_one a stops)

-- one that was not there is set, where there is room, and taken away
pub removed_again : (a : ℕ) (stops : List ℕ) → has_breakpoint a stops ≡ false → is_full_for a stops ≡ false
    → without_breakpoint a (with_breakpoint a stops) ≡ stops
removed_again a stops none room = search (rules, before_one a stops none)
