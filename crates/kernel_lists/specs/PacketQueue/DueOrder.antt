-- The order of packets that are due at a tick.
use Rattle.std.specs.Prelude.{◌≡◌, ℕ, ◌==◌, if◌then◌else◌, List, [], ◌∷◌, ◌++◌}
use Rattle.std.specs.List.Sorted.{IsNonDecreasingBy}
use Rattle.kernel_lists.specs.PacketQueue.Queue.{queue_at}
use Rattle.kernel_lists.specs.PacketQueue.Due.{due_at, due_of}

-- the due ticks never fall along the queue
abbrev pub NeverFalls : List ℕ → ℕ → Type 0
NeverFalls s head = IsNonDecreasingBy (due_of s) (queue_at s head)

-- The packet comes last among those with its own due tick, and those with any other tick are as before.
abbrev pub ArrivesLast : List ℕ → List ℕ → ℕ → ℕ → ℕ → Type 0
ArrivesLast old new head p due =
    (tick : ℕ) → due_at new head tick ≡ due_at old head tick ++ (if due == tick then p ∷ [] else [])
