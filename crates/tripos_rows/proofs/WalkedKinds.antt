-- The lists of a machine's store can be walked.
use Rattle.kernel_model.specs.KernelRecord.KernelRanges.{CanWalkLists}
use Rattle.kernel_model.proofs.KernelRecord.WalkedLists.{can-walk}
use Rattle.kernel_machine.specs.declared.running_machine.parts.Parts.{Parts}
use Rattle.tripos_machine.specs.State.{IsSound, RepresentsFullState, State}
use Rattle.tripos_machine.specs.State.State.{Bare, Full}

pub walks : (p : Parts) (s : State) → RepresentsFullState p s → IsSound s → CanWalkLists p.store
walks p (Bare m) represents sound = absurd represents
walks p (Full k) represents sound = can-walk p.store k.lists (record { valid = sound.lists; size = represents.image.size; holds = represents.image.holds })
