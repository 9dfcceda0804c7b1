use Rattle.kernel_model.proofs.KernelRecord.SettledWords.{settled-image, settled-plain}
use Rattle.kernel_model.proofs.kernel_record.image_laws.settled_law.Goals as goal

pub returns-clause-image : goal.returns-clause-image
returns-clause-image c = settled-image

pub returns-clause-plain : goal.returns-clause-plain
returns-clause-plain c = settled-plain
