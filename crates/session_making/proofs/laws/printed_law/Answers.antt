use Rattle.session_making.proofs.Written.{printed}
use Rattle.session_making.proofs.laws.printed_law.Goals as goal

pub returns : goal.returns
returns c = printed
