use Rattle.kernel_lists.proofs.OwnedWords.WrittenWords.{known-writes-hold}
use Rattle.kernel_lists.proofs.owned_words.laws.known_store_law.Goals as goal

pub returns : goal.returns
returns c = known-writes-hold
