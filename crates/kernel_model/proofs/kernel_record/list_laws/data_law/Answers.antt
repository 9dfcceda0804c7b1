use Rattle.kernel_model.proofs.KernelRecord.DataLaw.{free-data, owned-where}
use Rattle.kernel_model.proofs.kernel_record.list_laws.data_law.Goals as goal

pub returns-clause-used : goal.returns-clause-used
returns-clause-used c = λ l a v some. owned-where l v a some

pub returns-clause-free : goal.returns-clause-free
returns-clause-free c = free-data
