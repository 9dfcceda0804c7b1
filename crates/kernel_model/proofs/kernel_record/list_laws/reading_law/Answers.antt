use Rattle.kernel_model.proofs.KernelRecord.Reading.{read-lists}
use Rattle.kernel_model.proofs.kernel_record.list_laws.reading_law.Goals as goal

pub returns : goal.returns
returns c = read-lists
