-- While a packet is queued its word 1 is its sender.
use Rattle.std.proofs.Common.{◌≡◌, ℕ, ◌+◌, List, [], ◌∷◌, get_or, refl, subst}
use Rattle.std.specs.List.{AllByRecursion}
use Rattle.kernel_lists.specs.OwnedWords.LinkedWords.{linked_words}
use Rattle.kernel_lists.specs.OwnedWords.Owned.{Holds}
use Rattle.kernel_lists.specs.PacketQueue.QueueWords.{QueuedPacket, address_of, packet_words}
use Rattle.kernel_model.specs.KernelRecord.Changes.{HasPlace, queue_of}
use Rattle.kernel_model.specs.KernelRecord.HoldsLists.{HoldsLists}
use Rattle.kernel_model.specs.KernelRecord.Kernel.{Kernel}
use Rattle.kernel_model.specs.KernelRecord.Lists.{Lists}
use Rattle.kernel_model.specs.KernelRecord.ValidKernel.{IsValid}
use Rattle.kernel_model.specs.KernelRecord.ValidQueues.{Place}
use Rattle.kernel_model.proofs.KernelRecord.QueuePlaces.{place-there}
use Rattle.kernel_calls.proofs.PacketCalls.HeldPlaces.{held-at}
use Rattle.tripos_machine.specs.PacketHistory.Senders.{HoldSenders}
use Rattle.tripos_machine.proofs.PacketHistory.PlainWords.{HasValidImage, image-holds}

-- the packets have their senders as their words 1
abbrev pub AreSenders : List ℕ → List QueuedPacket → Type 0
AreSenders s ps = AllByRecursion (λ p. get_or s (p.address + 1) 0 ≡ p.sender) ps

each-sender : (s : List ℕ) (ps : List QueuedPacket) → Holds s (linked_words address_of packet_words ps 0) → AreSenders s ps
each-sender s [] h = tt
each-sender s (p ∷ ps) h = (h.1.0, each-sender s ps h.1.1.1.1.1)

module _ (s : List ℕ) (l : Lists) (h : HoldsLists s l) where
  held-senders : (at : Place) → HasPlace l at → AreSenders s (queue_of at l)
  held-senders at has = each-sender s (queue_of at l) (held-at s l at h has).holds.1

  -- a place that is not there has no packet
  pub place-senders : (at : Place) → AreSenders s (queue_of at l)
  place-senders at = on (queue_of at l) refl
    where
      on : (ps : List QueuedPacket) → queue_of at l ≡ ps → AreSenders s ps
      on [] is = tt
      on (p ∷ ps) is = subst (AreSenders s) is (held-senders at (place-there l at [] p ps h.valid is))

pub image-senders : (k : Kernel) → HasValidImage k → HoldSenders k
image-senders k with-image at has = place-senders _ k.lists (image-holds k with-image) at

pub valid-senders : (k : Kernel) → IsValid k → HoldSenders k
valid-senders k valid = image-senders k (record { lists = valid.lists; plain = valid.plain })
