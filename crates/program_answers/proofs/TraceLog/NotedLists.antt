-- A list of events, noted one after another.
use Rattle.std.proofs.Common.{◌≡◌, ℕ, ◌+◌, ◌<◌, Bool, Option, List, [], ◌∷◌, ◌++◌, length, get_or, take, add-one}
use Rattle.std.proofs.Math.Seq.{take-suc}
use Rattle.kernel_lists.specs.PacketQueue.Log.{Notes}
use Rattle.kernel_lists.specs.declared.packet_queue.events.KernelEvent.{KernelEvent}
use Rattle.kernel_model.specs.KernelRecord.NotedEvents.{NotesAll}
use Rattle.kernel_model.proofs.KernelRecord.NotedInTurn.{notes-one, notes-then}

-- the first i events are noted, and then the next
pub NotesAll-next : (b m n : Option (List KernelEvent)) (f g h : Bool) (es : List KernelEvent) (i : ℕ) (d : KernelEvent) → i < length es
    → NotesAll b m f g (take i es) → Notes m n g h (get_or es i d) → NotesAll b n f h (take (i + 1) es)
NotesAll-next b m n f g h es i d below all next =
    let more : take (i + 1) es ≡ take i es ++ get_or es i d ∷ [] = rw add-one (take-suc es i d below) in
    rw more (notes-then b m n f g h (take i es) (get_or es i d ∷ []) all (notes-one m n g h (get_or es i d) next))
