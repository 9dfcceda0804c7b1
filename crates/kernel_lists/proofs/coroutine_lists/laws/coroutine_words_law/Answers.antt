use Rattle.kernel_lists.proofs.Coroutines.CreationExchanges.{create-exchange, delete-exchange}
use Rattle.kernel_lists.proofs.coroutine_lists.laws.coroutine_words_law.Goals as goal

pub returns-clause-create : goal.returns-clause-create
returns-clause-create c = create-exchange

pub returns-clause-delete : goal.returns-clause-delete
returns-clause-delete c = delete-exchange
