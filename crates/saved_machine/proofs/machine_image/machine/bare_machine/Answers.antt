use Rattle.std.proofs.Common.{◌∙◌, refl, sym}
use Rattle.bare_machine.specs.State.{going}
use Rattle.tripos_machine.specs.State.State.{Bare}
use Rattle.saved_machine.proofs.MachineImage.SavedMachines.{bare-form, bare-machine, bare-sound}
use Rattle.saved_machine.proofs.machine_image.machine.bare_machine.Goals as goal

pub from_parts-requires : goal.from_parts-requires
from_parts-requires c =
    let x = c.args.image in
    (Bare (going x.store x.regs x.step), refl, bare-sound x c.requires.bare c.requires.lawful, refl)

pub returns : goal.returns
returns c =
    let x = c.args.image in
    let is = c.from_parts.ensures.state (Bare (going x.store x.regs x.step)) refl (bare-sound x c.requires.bare c.requires.lawful) refl in
    record {
      state = bare-machine x c.requires.bare c.requires.lawful c.from_parts.result.state is;
      keys = c.from_parts.ensures.keys ∙ sym (bare-form x c.requires.bare c.requires.lawful).keys;
      output = c.from_parts.ensures.output;
    }
