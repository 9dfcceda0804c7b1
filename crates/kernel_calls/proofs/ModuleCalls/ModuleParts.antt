-- The words of modules among all owned words.
use Rattle.std.proofs.Common.{◌≡◌, ℕ, suc, ◌+◌, List, ◌∷◌, length, ap}
use Rattle.std.specs.List.{range_with_len}
use Rattle.word_store.specs.Count.{hit, times}
use Rattle.kernel_lists.specs.OwnedWords.Exchange.{Exchange}
use Rattle.kernel_lists.specs.OwnedWords.Owned.{Pairs, owners}
use Rattle.kernel_lists.proofs.OwnedWords.Exchanges.{exchange-left, exchange-right}
use Rattle.kernel_lists.proofs.OwnedWords.RowWords.{owners-row}
use Rattle.kernel_lists.specs.GetvecChain.BlockWords.{blocks_words}
use Rattle.kernel_lists.specs.HunkLoader.HeldModules.{LoadedModule, module_words}
use Rattle.kernel_lists.specs.HunkLoader.ModuleExchanges.{modules_words}
use Rattle.kernel_model.specs.KernelRecord.Changes.{with_modules}
use Rattle.kernel_model.specs.KernelRecord.Lists.{Lists, address_of_task}
use Rattle.kernel_model.specs.KernelRecord.Owned.{owned, tasks_words}
use Rattle.kernel_model.specs.KernelRecord.Root.{root_words}
use Rattle.kernel_model.proofs.KernelRecord.ModuleMoves.{owners-module}

-- an exchange of the words of modules is one of owned words
pub modules-exchange : (l : Lists) (ms : List LoadedModule) (old new : Pairs) → Exchange (modules_words l.modules) (modules_words ms) old new → Exchange (owned l) (owned (with_modules ms l)) old new
unfolding owned
modules-exchange l ms old new x =
    exchange-right (root_words l (address_of_task l l.running)) _ _ old new
    (exchange-right (blocks_words l.blocks) _ _ old new (exchange-right (tasks_words l) _ _ old new (exchange-left (modules_words l.modules) (modules_words ms) _ old new x)))
