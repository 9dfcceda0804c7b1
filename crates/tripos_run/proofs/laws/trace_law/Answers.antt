use Rattle.tripos_run.proofs.TracedHistories.{traced-history}
use Rattle.tripos_run.proofs.laws.trace_law.Goals as goal

pub returns : goal.returns
returns c = λ text s x a read booted is. traced-history text s x a read booted is
