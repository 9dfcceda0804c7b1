use Rattle.module_text.proofs.RoundTrip.{printed_again}
use Rattle.module_text.proofs.laws.printed_law.Goals as goal

pub returns : goal.returns
returns c = printed_again
