use Rattle.kernel_model.proofs.KernelRecord.OneKernel.{one-kernel}
use Rattle.kernel_model.proofs.kernel_record.image_laws.one_kernel_law.Goals as goal

pub returns : goal.returns
returns c = one-kernel
