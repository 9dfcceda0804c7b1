use Rattle.kernel_model.proofs.KernelRecord.CoroutineMoves.{gone_coroutine-unowned, gone_coroutine-valid}
use Rattle.kernel_model.proofs.kernel_record.change_laws.gone_coroutine_law.Goals as goal

pub returns-clause-valid : goal.returns-clause-valid
returns-clause-valid c = gone_coroutine-valid

pub returns-clause-unowned : goal.returns-clause-unowned
returns-clause-unowned c = gone_coroutine-unowned
