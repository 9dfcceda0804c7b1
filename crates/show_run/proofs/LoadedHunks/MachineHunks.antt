-- The hunks in a machine whose parts are known.
use Rattle.std.proofs.Common.{List, subst}
use Rattle.kernel_machine.specs.declared.running_machine.parts.Parts.{Parts}
use Rattle.kernel_model.specs.KernelRecord.HoldsLists.{HoldsLists}
use Rattle.kernel_model.specs.KernelRecord.Lists.{Lists}
use Rattle.kernel_model.proofs.KernelRecord.ImageWords.{image-list}
use Rattle.tripos_machine.specs.State.{RepresentsFullState, State}
use Rattle.tripos_machine.specs.State.State.{Bare, Full}
use Rattle.show_run.specs.Places.Hunks.{hunks_in_blocks, machine_hunks}
use Rattle.program_places.specs.declared.loaded.LoadedHunk.{LoadedHunk}
use Rattle.program_places.specs.declared.maps.MappedHunk.{MappedHunk}

-- what holds of the hunks in the blocks of all lists that the store of the parts holds, holds of the machine's
pub hunks-of : (p : Parts) (s : State) (hunks : List MappedHunk) (P : List LoadedHunk → Type 0) → RepresentsFullState p s
    → ((l : Lists) → HoldsLists p.store l → P (hunks_in_blocks hunks p.store l l.blocks)) → P (machine_hunks hunks s)
hunks-of p (Bare m) hunks P x each = absurd x
hunks-of p (Full k) hunks P x each =
    subst (λ words. P (hunks_in_blocks hunks words k.lists k.lists.blocks)) (image-list p.store k x.image) (each k.lists x.keeper.lists)
