-- A row of words in two parts.
use Rattle.std.proofs.Common.{◌≡◌, ℕ, suc, ◌+◌, List, [], ◌∷◌, ◌++◌, length, sym, ap, ◌∙◌, arith, add-zero}
use Rattle.kernel_lists.specs.OwnedWords.Owned.{row_from}
use Rattle.kernel_lists.proofs.HunkLoader.ModuleExchanges.{row-append}
