use Rattle.std.proofs.Common.{refl}
use Rattle.instruction_set.specs.InstructionTable.Table.{entry, column0, column1, column2, column3, column4, column5, column6, column7}
use Rattle.instruction_set.proofs.instruction_table.row_names.names.Goals as goal

pub returns : goal.returns
unfolding entry column0 column1 column2 column3 column4 column5 column6 column7
returns c = refl
