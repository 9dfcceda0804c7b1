use Rattle.kernel_model.proofs.KernelRecord.CoroutineMoves.{new_coroutine-valid}
use Rattle.kernel_model.proofs.kernel_record.change_laws.new_coroutine_law.Goals as goal

pub returns : goal.returns
returns c = new_coroutine-valid
