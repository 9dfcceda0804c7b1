use Rattle.shell.proofs.KeptShell.{turn-sound}
use Rattle.shell.proofs.laws.shell_law.Goals as goal

pub returns-clause-typing : goal.returns-clause-typing
returns-clause-typing c = λ s l sh d r awaited. (turn-sound s l sh d r.disc.numbers r.typing awaited).typing

pub returns-clause-awaited : goal.returns-clause-awaited
returns-clause-awaited c = λ s l sh d r awaited. (turn-sound s l sh d r.disc.numbers r.typing awaited).awaited

pub returns-clause-line : goal.returns-clause-line
returns-clause-line c = λ s l sh d r awaited. (turn-sound s l sh d r.disc.numbers r.typing awaited).line
