use Rattle.std.proofs.Common.{arith, ◌∙◌}
use Rattle.kernel_calls.proofs.CallAnswers.FoundTask.{reads}
use Rattle.shell.proofs.ShellPrograms.ProgramNumbers.{highest-low_enough, next-read}
use Rattle.shell.proofs.shell_programs.programs.next_number.Goals as goal

pub free_id-requires : goal.free_id-requires
free_id-requires c = (reads c.args.store.now c.requires.0 c.requires.1).tasks.tasks

pub overflow_add-highest_id : goal.overflow_add-highest_id
overflow_add-highest_id c = omega (arith, highest-low_enough c.args.store.now c.requires.0 c.requires.1 c.highest_id.result c.highest_id.ensures)

pub returns : goal.returns
returns c = λ l h. c.unwrap_or.ensures ∙ next-read c.args.store.now l h c.highest_id.result c.free_id.result c.highest_id.ensures c.free_id.ensures
