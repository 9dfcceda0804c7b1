-- The first packet of a device's queue, as a store tells it.
use Rattle.std.proofs.Common.{◌≡◌, ◌≢◌, ℕ, List, [], get_or, refl, sym, ap, ◌∙◌}
use Rattle.kernel_lists.specs.PacketQueue.QueueWords.{HeldQueue, QueuedPacket}
use Rattle.kernel_model.specs.KernelRecord.Changes.{HasPlace, queue_of}
use Rattle.kernel_model.specs.KernelRecord.HoldsLists.{HoldsLists}
use Rattle.kernel_model.specs.KernelRecord.Lists.{Lists}
use Rattle.kernel_model.specs.KernelRecord.ValidQueues.Place.{Clock, Keyboard, Output}
use Rattle.kernel_model.proofs.KernelRecord.ChangedLists.{changed-none}
use Rattle.kernel_calls.proofs.PacketCalls.HeldPlaces.{HasFirst, first-there, held-at, no-packets}
use Rattle.kernel_calls.specs.PacketCalls.Returned.{IsServed, first_returned, head_of, place_of, unserved}
use Rattle.kernel_calls.specs.declared.packet_calls.returns.Device.{Device}
use Rattle.kernel_calls.specs.declared.packet_calls.returns.Device.TheVariants as devices

-- its queue always has a place
pub device-place : (l : Lists) (d : Device) → HasPlace l (place_of d)
device-place l devices.Clock = tt
device-place l devices.Keyboard = tt
device-place l devices.Output = tt

module _ (s : List ℕ) (l : Lists) (d : Device) (h : HoldsLists s l) where
  abbrev waiting : List QueuedPacket
  waiting = queue_of (place_of d) l

  pub device-held : HeldQueue s (head_of d) waiting
  device-held = on d
    where
      on : (e : Device) → HeldQueue s (head_of e) (queue_of (place_of e) l)
      on devices.Clock = held-at s l Clock h tt
      on devices.Keyboard = held-at s l Keyboard h tt
      on devices.Output = held-at s l Output h tt

  -- none waits where the head holds 0
  pub none-waits : get_or s (head_of d) 0 ≡ 0 → waiting ≡ []
  none-waits e = no-packets waiting device-held.some (sym device-held.holds.0 ∙ e)

  -- and else the first one does
  pub one-waits : (p : ℕ) → p ≡ get_or s (head_of d) 0 → p ≢ 0 → HasFirst p waiting
  one-waits p is some = first-there p waiting (is ∙ device-held.holds.0) some

  pub served-none : IsServed s s l (unserved l)
  served-none = record { lists = changed-none s l h; same = λ a. refl }

  -- with none that waits, nothing is done
  pub returned-none : (res1 : ℕ) → get_or s (head_of d) 0 ≡ 0 → first_returned d res1 waiting l ≡ unserved l
  returned-none res1 e = ap (λ ps. first_returned d res1 ps l) (none-waits e)
