use Rattle.assembly_errors.proofs.FirstErrors.{first_error}
use Rattle.assembly_errors.proofs.laws.refusal_law.Goals as goal

pub returns : goal.returns
returns c = first_error
