use Rattle.kernel_lists.proofs.OwnedWords.WrittenWords.{writes-hold}
use Rattle.kernel_lists.proofs.owned_words.laws.written_law.Goals as goal

pub returns : goal.returns
returns c = writes-hold
