use Rattle.kernel_lists.proofs.OwnedWords.WrittenWords.{ordered-hold}
use Rattle.kernel_lists.proofs.owned_words.laws.ordered_law.Goals as goal

pub returns : goal.returns
returns c = ordered-hold
