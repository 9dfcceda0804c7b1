use Rattle.kernel_model.proofs.KernelRecord.ModuleMoves.{gone_module-unowned, gone_module-valid}
use Rattle.kernel_model.proofs.kernel_record.change_laws.gone_module_law.Goals as goal

pub returns-clause-valid : goal.returns-clause-valid
returns-clause-valid c = gone_module-valid

pub returns-clause-unowned : goal.returns-clause-unowned
returns-clause-unowned c = gone_module-unowned
