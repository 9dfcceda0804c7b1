use Rattle.std.proofs.Common.{arith}
use Rattle.shell.proofs.ShellPrograms.ProgramNumbers.{next-low}
use Rattle.shell.proofs.shell_programs.programs.priority_of.Goals as goal

pub overflow_add-result : goal.overflow_add-result
overflow_add-result c = omega (arith, next-low c.requires.0, c.next_number.ensures c.requires.0 c.requires.1)

pub overflow_add-result-in-AboveShell : goal.overflow_add-result-in-AboveShell
overflow_add-result-in-AboveShell c = omega (arith, next-low c.requires.0, c.next_number-in-AboveShell.ensures c.requires.0 c.requires.1)
