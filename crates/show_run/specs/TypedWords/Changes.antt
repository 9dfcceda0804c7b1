-- Breakpoints that are set and taken away.
use Rattle.std.specs.Prelude.{ℕ, ◌^◌, ◌-◌, Bool, true, false, if◌then◌else◌, nat_lt, List, Option, Some, None}
use Rattle.module_text.specs.TextReader.Numbers.{number_of}
use Rattle.instruction_set.specs.Breakpoints.{has_breakpoint}
use Rattle.show_run.specs.declared.typed_words.breaks.Change.{Change}
use Rattle.show_run.specs.declared.typed_words.breaks.Change.TheVariants.{Removed, Set}

-- whether there is a breakpoint after a change
abbrev pub is_set : Change → Bool
is_set Set = true
is_set Removed = false

-- whether one of the breakpoints is at an address, if that is a byte address
abbrev pub is_stop_at : List ℕ → Option ℕ → Bool
is_stop_at stops (Some a) = if nat_lt (2 ^ 32 - 1) a then false else has_breakpoint a stops
is_stop_at stops None = false

-- whether one of the breakpoints is at the address that digits say
abbrev pub is_stop : List ℕ → List ℕ → Bool
is_stop digits stops = is_stop_at stops (number_of digits)
