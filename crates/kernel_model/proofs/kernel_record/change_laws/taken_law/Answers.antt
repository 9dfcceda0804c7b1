use Rattle.kernel_model.proofs.KernelRecord.TakenBlocks.{take-valid, taken-block, taken-unowned}
use Rattle.kernel_model.proofs.kernel_record.change_laws.taken_law.Goals as goal

pub returns-clause-valid : goal.returns-clause-valid
returns-clause-valid c = take-valid

pub returns-clause-block : goal.returns-clause-block
returns-clause-block c = taken-block

pub returns-clause-unowned : goal.returns-clause-unowned
returns-clause-unowned c = taken-unowned
