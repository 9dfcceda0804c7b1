use Rattle.std.proofs.Common.{arith, ap, length}
use Rattle.kernel_model.proofs.KernelRecord.WalkedLists.{can-walk}
use Rattle.saved_machine.specs.MachineImage.Private.Rules.{lists_of}
use Rattle.saved_machine.proofs.MachineImage.AdoptedParts.{residents-adopted}
use Rattle.saved_machine.proofs.machine_image.parts.made_parts.Goals as goal

pub of_store-requires : goal.of_store-requires
of_store-requires c = can-walk c.args.image.now.store (lists_of c.args.image.now) c.requires.lists

pub type_ahead_of-requires : goal.type_ahead_of-requires
type_ahead_of-requires c = omega (arith, ap length c.as_slice.ensures, (residents-adopted c.args.image.now c.requires).ahead)
