use Rattle.std.proofs.Common.{◌∙◌, ap}
use Rattle.std.proofs.lemmas.Option.{MatchOption-at_some}
use Rattle.tripos_machine.specs.State.State.{Full}
use Rattle.store_claims.proofs.AdoptionLaw.OneKernel.{has-kernel}
use Rattle.saved_machine.specs.MachineImage.Machines.{AreKept, HasMachine}
use Rattle.saved_machine.specs.MachineImage.Parts.{others_of}
use Rattle.saved_machine.proofs.MachineImage.SavedMachines.{full-machine, parts-represent}
use Rattle.saved_machine.proofs.machine_image.machine.full_machine.Goals as goal

pub made_parts-requires : goal.made_parts-requires
made_parts-requires c =
    let x = c.args.image in
    (MatchOption-at_some (HasMachine x → ⊥) (AreKept x) c.in-Some.kept c.in-Some.is c.in_ok-kept.ensures).adopted

pub parts_of-parts-requires-clause-kept : goal.parts_of-parts-requires-clause-kept
parts_of-parts-requires-clause-kept c =
    let x = c.args.image in
    MatchOption-at_some (HasMachine x → ⊥) (AreKept x) c.in-Some.kept c.in-Some.is c.in_ok-kept.ensures

pub from_parts-requires : goal.from_parts-requires
from_parts-requires c =
    let x = c.args.image in
    let kept = MatchOption-at_some (HasMachine x → ⊥) (AreKept x) c.in-Some.kept c.in-Some.is c.in_ok-kept.ensures in
    let k = (has-kernel x.store (others_of x)).1 kept.adopted in
    (Full k.0, parts-represent x c.parts_of-parts.result k.0 c.parts_of-parts.ensures k.1 k.2, k.1, k.2.goes)

pub returns : goal.returns
returns c =
    let x = c.args.image in
    let kept = MatchOption-at_some (HasMachine x → ⊥) (AreKept x) c.in-Some.kept c.in-Some.is c.in_ok-kept.ensures in
    let k = (has-kernel x.store (others_of x)).1 kept.adopted in
    let is = c.from_parts.ensures.state (Full k.0) (parts-represent x c.parts_of-parts.result k.0 c.parts_of-parts.ensures k.1 k.2) k.1 k.2.goes in
    record {
      state = full-machine x c.from_parts.result.state k.0 c.requires.full k.1 k.2 is;
      keys = c.from_parts.ensures.keys ∙ ap (λ s. s.keys) c.parts_of-parts.ensures.keys;
      output = c.from_parts.ensures.output;
    }
