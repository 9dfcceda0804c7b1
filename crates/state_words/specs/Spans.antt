-- Rows of words or of bytes.
use Rattle.std.specs.Prelude.{ℕ, ◌&&◌, Bool, List, nat_le, nat_lt, Option}
use Rattle.std.specs.List.{find, list_any}
use Rattle.state_words.specs.declared.spans.Span.{Span}

-- an address is in a row
abbrev pub has : ℕ → Span → Bool
has at span = nat_le span.from at && nat_lt at span.to

-- an address is in one of some rows
abbrev pub is_in_any : ℕ → List Span → Bool
is_in_any at spans = list_any (has at) spans

-- a frame at p is in a stack, and the word at an address is after it
abbrev pub is_beyond : ℕ → ℕ → Span → Bool
is_beyond p address stack = has p stack && nat_le stack.to address

-- the first of some stacks in which a frame at p is, and after which the word at an address is
abbrev pub first_beyond : ℕ → ℕ → List Span → Option Span
first_beyond p address stacks = find (is_beyond p address) stacks
