-- The line of an event.
use Rattle.std.specs.Prelude.{ℕ, ℤ, List, [], ◌∷◌, codes, decimal}
use Rattle.std.specs.Fmt.{signed_decimal}
use Rattle.byte_streams.specs.Pieces.{joined}
use Rattle.kernel_lists.specs.declared.packet_queue.events.KernelEvent.{KernelEvent}
use Rattle.kernel_lists.specs.declared.packet_queue.events.KernelEvent.TheVariants.{Accepted, Taken, Dequeued, Runs}

-- the line of an event in which a packet has a sender
abbrev pub sender_line : List ℕ → ℤ → ℕ → ℤ → List ℕ
sender_line verb queue packet sender =
    joined (verb ∷ codes " " ∷ signed_decimal queue ∷ codes " " ∷ decimal packet ∷ codes " " ∷ signed_decimal sender ∷ codes "\n" ∷ [])

-- the line of an event, ended by LF
abbrev pub line_of : KernelEvent → List ℕ
line_of (Accepted queue packet sender) = sender_line (codes "accept") queue packet sender
line_of (Taken queue packet sender) = sender_line (codes "take") queue packet sender
line_of (Dequeued queue packet) =
    joined (codes "dequeue " ∷ signed_decimal queue ∷ codes " " ∷ decimal packet ∷ codes "\n" ∷ [])
line_of (Runs task) = joined (codes "run " ∷ decimal task ∷ codes "\n" ∷ [])
