use Rattle.kernel_lists.proofs.OwnedWords.RowWords.{with_words-written}
use Rattle.kernel_lists.proofs.owned_words.laws.row_law.Goals as goal

pub returns : goal.returns
returns c = with_words-written
