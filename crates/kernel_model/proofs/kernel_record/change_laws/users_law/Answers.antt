use Rattle.kernel_model.proofs.KernelRecord.UnownedBlocks.{unowned-user}
use Rattle.kernel_model.proofs.kernel_record.change_laws.users_law.Goals as goal

pub returns : goal.returns
returns c = unowned-user
