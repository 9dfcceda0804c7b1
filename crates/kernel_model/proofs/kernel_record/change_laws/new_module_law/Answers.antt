use Rattle.kernel_model.proofs.KernelRecord.ModuleMoves.{new_module-valid}
use Rattle.kernel_model.proofs.kernel_record.change_laws.new_module_law.Goals as goal

pub returns : goal.returns
returns c = new_module-valid
