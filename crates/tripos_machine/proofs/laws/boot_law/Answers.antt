use Rattle.tripos_machine.proofs.RefusedLines.{boot-line}
use Rattle.tripos_machine.proofs.laws.boot_law.Goals as goal

pub returns : goal.returns
returns c = boot-line
