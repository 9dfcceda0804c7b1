-- What the list of a log of lines begins with: which reference it writes to, what its sink held and what was pending at first, and
-- what its words tell. The marks are events that say this in numbers, so that two lists that begin with marks and agree have the same
-- marks.
use Rattle.std.specs.Prelude.{ℕ, pos, List, [], ◌∷◌, ◌++◌, Option, None, Some}
use Rattle.kernel_lists.specs.declared.packet_queue.events.KernelEvent.{KernelEvent}
use Rattle.kernel_lists.specs.declared.packet_queue.events.KernelEvent.TheVariants.{Dequeued, Runs}

-- What a log of lines keeps.
pub record Kept : Type 0 where
  -- the ghost name of its reference to the sink
  pub name : ℕ
  -- the sink's count of faults at first
  pub faults : ℕ
  -- the bytes that the sink held at first, where it tells them
  pub first : Option (List ℕ)
  -- the bytes that were pending at first
  pub before : List ℕ
  -- the numbers that its words tell
  pub numbers : List ℕ

-- these five as one
abbrev pub kept : ℕ → ℕ → Option (List ℕ) → List ℕ → List ℕ → Kept
kept name faults first before numbers = record { name = name; faults = faults; first = first; before = before; numbers = numbers }

-- numbers as events, and an event that ends them
abbrev pub number_marks : List ℕ → List KernelEvent
number_marks [] = Dequeued (pos 0) 0 ∷ []
number_marks (n ∷ ns) = Runs n ∷ number_marks ns

-- the bytes that a sink tells, where it tells them
abbrev pub byte_marks : Option (List ℕ) → List KernelEvent
byte_marks None = Runs 0 ∷ []
byte_marks (Some bytes) = Runs 1 ∷ number_marks bytes

-- what a log keeps, as events
abbrev pub marks : Kept → List KernelEvent
marks k = Runs k.name ∷ Runs k.faults ∷ byte_marks k.first ++ (number_marks k.before ++ number_marks k.numbers)
