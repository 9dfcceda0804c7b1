-- A device returns the first packet of its queue to the task that sent it.
use Rattle.std.specs.Prelude.{◌≡◌, ℕ, List, [], ◌∷◌, ◌++◌}
use Rattle.word_store.specs.Arithmetic.{signed}
use Rattle.kernel_lists.specs.OwnedWords.Owned.{owners}
use Rattle.kernel_lists.specs.PacketQueue.QueueWords.{QueuedPacket}
use Rattle.kernel_lists.specs.declared.packet_queue.events.KernelEvent.{KernelEvent}
use Rattle.kernel_lists.specs.declared.packet_queue.events.KernelEvent.TheVariants.{Accepted, Taken}
use Rattle.kernel_model.specs.KernelRecord.ChangedStore.{IsChanged}
use Rattle.kernel_model.specs.KernelRecord.Changes.{queue_of, with_queue}
use Rattle.kernel_model.specs.KernelRecord.Lists.{Lists}
use Rattle.kernel_model.specs.KernelRecord.Owned.{clock_head, keyboard_head, output_head, owned}
use Rattle.kernel_model.specs.KernelRecord.Residents.{device}
use Rattle.kernel_model.specs.KernelRecord.ValidQueues.{Place}
use Rattle.kernel_model.specs.KernelRecord.ValidQueues.Place.{Clock, Keyboard, Output, Work}
use Rattle.kernel_calls.specs.declared.packet_calls.returns.Device.{Device}
use Rattle.kernel_calls.specs.declared.packet_calls.returns.Device.TheVariants as devices

-- the clock is -1, the keyboard -2, the output -3
abbrev pub number_of : Device → ℕ
number_of devices.Clock = device 1
number_of devices.Keyboard = device 2
number_of devices.Output = device 3

-- the word that leads to its first packet
abbrev pub head_of : Device → ℕ
head_of devices.Clock = clock_head
head_of devices.Keyboard = keyboard_head
head_of devices.Output = output_head

-- the place of a device's queue
abbrev pub place_of : Device → Place
place_of devices.Clock = Clock
place_of devices.Keyboard = Keyboard
place_of devices.Output = Output

-- What a device does: of the parts of a KernelChange the lists and the events, since it writes no plain word.
pub record DeviceChange : Type 0 where
  -- the lists
  pub lists : Lists
  -- the events, in their order
  pub events : List KernelEvent

-- a device that has nothing to do leaves all as it was
abbrev pub unserved : Lists → DeviceChange
unserved l = record { lists = l; events = [] }

-- the packet as its sender gets it: from the device, with this result, and 0 as the second one
abbrev pub returned_by : Device → ℕ → QueuedPacket → QueuedPacket
returned_by d res1 p = record p { sender = number_of d; res1 = res1; last = 0 }

-- a packet comes to the end of the work queue of the task with the number
abbrev pub with_work_for : ℕ → QueuedPacket → Lists → Lists
with_work_for id p l = with_queue (Work id) (queue_of (Work id) l ++ p ∷ []) l

-- the device takes it, and its sender accepts it
abbrev pub return_events : Device → QueuedPacket → List KernelEvent
return_events d p = Taken (signed (number_of d)) p.address (signed p.sender) ∷ Accepted (signed p.sender) p.address (signed (number_of d)) ∷ []

-- where these are queued for the device, the first of them is returned with this result
abbrev pub first_returned : Device → ℕ → List QueuedPacket → Lists → DeviceChange
first_returned d res1 [] l = unserved l
first_returned d res1 (p ∷ ps) l =
    record { lists = with_work_for p.sender (returned_by d res1 p) (with_queue (place_of d) ps l); events = return_events d p }

-- The store that was s, which held the lists l, is t: it holds those that the device leaves, and nothing else has changed. The
-- same words are owned before and after, so no keeper of kinds has to be told.
pub record IsServed (s t : List ℕ) (l : Lists) (m : DeviceChange) : Type 0 where
  -- the store holds these lists, and no plain word has changed
  pub lists : IsChanged s t m.lists []
  -- the same words are owned
  pub same : (a : ℕ) → owners a (owned m.lists) ≡ owners a (owned l)
