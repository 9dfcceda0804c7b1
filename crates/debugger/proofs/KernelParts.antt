-- A machine of either kind, of which it is known which it is.
use Rattle.bare_machine.specs.State.{BareState}
use Rattle.kernel_model.specs.KernelRecord.HoldsLists.{HoldsLists}
use Rattle.kernel_model.specs.KernelRecord.Kernel.{Kernel}
use Rattle.kernel_model.specs.KernelRecord.Lists.{Lists}
use Rattle.kernel_machine.specs.declared.running_machine.parts.Parts.{Parts}
use Rattle.tripos_machine.specs.State.{IsBare, RepresentsFullState, State}
use Rattle.tripos_machine.specs.State.State.{Bare, Full}

-- what holds of each kernel whose lists the store of the parts holds, holds of the machine
pub on-full : (p : Parts) (s : State) (P : State → Type 0) → RepresentsFullState p s → ((k : Kernel) → HoldsLists p.store k.lists → P (Full k)) → P s
on-full p (Bare m) P x each = absurd x
on-full p (Full k) P x each = each k x.keeper.lists

pub on-bare : (s : State) (P : State → Type 0) → IsBare s → ((m : BareState) → P (Bare m)) → P s
on-bare (Bare m) P x each = each m
on-bare (Full k) P x each = absurd x

-- some lists are in the store of the parts
pub held-lists : (p : Parts) (s : State) → RepresentsFullState p s → (l : Lists) × HoldsLists p.store l
held-lists p (Bare m) x = absurd x
held-lists p (Full k) x = (k.lists, x.keeper.lists)
