use Rattle.saved_machine.proofs.ImagePrint.ResumedMachines.{resumed}
use Rattle.saved_machine.proofs.image_print.laws.resumed_law.Goals as goal

pub returns : goal.returns
returns c = resumed
