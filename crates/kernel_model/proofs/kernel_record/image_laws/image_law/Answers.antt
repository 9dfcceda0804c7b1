use Rattle.kernel_model.proofs.KernelRecord.ImageWords.{image-list, valid-image}
use Rattle.kernel_model.proofs.kernel_record.image_laws.image_law.Goals as goal

pub returns-clause-list : goal.returns-clause-list
returns-clause-list c = image-list

pub returns-clause-words : goal.returns-clause-words
returns-clause-words c = valid-image
