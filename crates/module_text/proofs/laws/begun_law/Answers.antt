use Rattle.module_text.proofs.Progress.{begin_begun, begun_goes_on}
use Rattle.module_text.proofs.laws.begun_law.Goals as goal

pub returns-clause-begin : goal.returns-clause-begin
returns-clause-begin c = begin_begun

pub returns-clause-begun : goal.returns-clause-begun
returns-clause-begun c = begun_goes_on
