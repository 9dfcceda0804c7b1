use Rattle.kernel_model.proofs.KernelRecord.GivenBlocks.{given-valid}
use Rattle.kernel_model.proofs.kernel_record.change_laws.given_law.Goals as goal

pub returns : goal.returns
returns c = given-valid
