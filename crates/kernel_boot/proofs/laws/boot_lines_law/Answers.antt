use Rattle.kernel_boot.proofs.LawfulLines.{boot-lines}
use Rattle.kernel_boot.proofs.laws.boot_lines_law.Goals as goal

pub returns : goal.returns
returns c = boot-lines
