use Rattle.saved_text.proofs.PrintedText.{printed}
use Rattle.saved_text.proofs.laws.printed_law.Goals as goal

pub returns : goal.returns
returns c = printed
