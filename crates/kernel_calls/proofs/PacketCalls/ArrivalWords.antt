-- What a packet that comes into a queue writes.
use Rattle.std.proofs.Common.{◌≡◌, ℕ, ◌+◌, List, [], ◌∷◌, ◌++◌, set, ap, ◌∙◌}
use Rattle.std.specs.List.{AllByRecursion}
use Rattle.kernel_lists.specs.OwnedWords.Owned.{Holds, written}
use Rattle.kernel_lists.specs.PacketQueue.QueueWords.{HeldQueue, QueuedPacket, link_behind}
use Rattle.kernel_lists.proofs.PacketQueue.HeldQueues.{append-exchange}
use Rattle.kernel_model.specs.KernelRecord.Changes.{HasPlace}
use Rattle.kernel_model.specs.KernelRecord.Lists.{Lists, address_of_task}
use Rattle.kernel_model.specs.KernelRecord.ValidQueues.{Place}
use Rattle.kernel_model.specs.KernelRecord.ValidQueues.Place.{Clock, Keyboard, Output, Pending, Work}
use Rattle.kernel_model.specs.KernelRecord.ValidTasks.{IsField}
use Rattle.kernel_calls.specs.PacketCalls.Destinations.{queue_for}
use Rattle.kernel_calls.specs.PacketCalls.QueueWords.{head_of, enqueued, state_with_packets}
use Rattle.kernel_calls.proofs.PacketCalls.PlaceWords.{state_pairs, work-comes}

-- every queue but the clock's
abbrev pub TakesAtEnd : Place → Type 0
TakesAtEnd (Work id) = Unit {0}
TakesAtEnd Clock = ⊥
TakesAtEnd Keyboard = Unit {0}
TakesAtEnd Output = Unit {0}
TakesAtEnd Pending = Unit {0}

pub enqueued-end : (s : List ℕ) (l : Lists) (at : Place) (ps : List QueuedPacket) (p : QueuedPacket) (due : ℕ) → TakesAtEnd at → HasPlace l at → AllByRecursion (λ t. IsField t.field) l.tasks
    → HeldQueue s (head_of (queue_for l at)) ps → Holds s (state_pairs l at ps)
    → enqueued s (queue_for l at) p.address due
    ≡ written (state_pairs l at (ps ++ p ∷ []) ++ ((link_behind (head_of (queue_for l at)) ps, p.address) ∷ (p.address, 0) ∷ [])) s
enqueued-end s l (Work id) ps p due end has fields held state =
    let words = (append-exchange s (head_of (queue_for l (Work id))) ps p held).words in
    let bit = ap state_with_packets state.0 ∙ work-comes id l.tasks ps p has fields in
    λ i. set (words i) (address_of_task l id + 4) (bit i)
enqueued-end s l Clock ps p due end has fields held state = absurd end
enqueued-end s l Keyboard ps p due end has fields held state = (append-exchange s (head_of (queue_for l Keyboard)) ps p held).words
enqueued-end s l Output ps p due end has fields held state = (append-exchange s (head_of (queue_for l Output)) ps p held).words
enqueued-end s l Pending ps p due end has fields held state = (append-exchange s (head_of (queue_for l Pending)) ps p held).words
