use Rattle.std.proofs.Common.{refl}
use Rattle.instruction_set.specs.InstructionTable.Table.{column4, entry}
use Rattle.show_run.proofs.step_log.laws.call_law.Goals as goal

pub returns : goal.returns
unfolding entry column4
returns c = refl
