-- The first line that asks for nothing.
use Rattle.std.specs.Prelude.{ℕ, ◌+◌, Bool, true, false, List, [], ◌∷◌, Option, Some, None, Result, Ok, Err}
use Rattle.std.specs.List.{list_any}
use Rattle.debugger.specs.declared.orders.BadLine.{BadLine}
use Rattle.debugger.specs.declared.orders.Order.{Order}
use Rattle.debugger.specs.declared.orders.Order.TheVariants.{Back, Continue, Step}
use Rattle.debugger.specs.Orders.{order_of}

-- the line, or else the first of the others
abbrev pub bad_or : Option BadLine → Result Order BadLine → Option BadLine
bad_or others (Ok order) = others
bad_or others (Err line) = Some line

-- the first line that asks for nothing, of these lines from line n on
abbrev pub first_bad : ℕ → List (List ℕ) → Option BadLine
first_bad n [] = None
first_bad n (line ∷ lines) = bad_or (first_bad (n + 1) lines) (order_of n line)

-- ---- whether steps are to be undone

-- whether a line asks that steps are undone
abbrev pub is_back : Result Order BadLine → Bool
is_back (Ok (Back n)) = true
is_back _ = false

-- some of these lines asks for it
abbrev pub goes_back : List (List ℕ) → Bool
goes_back lines = list_any (λ line. is_back (order_of 0 line)) lines

-- whether an order asks that steps are taken
abbrev pub takes_steps : Order → Bool
takes_steps (Step n) = true
takes_steps Continue = true
takes_steps _ = false
