use Rattle.session_making.proofs.Written.{written}
use Rattle.session_making.proofs.laws.read_law.Goals as goal

pub returns : goal.returns
returns c = written
