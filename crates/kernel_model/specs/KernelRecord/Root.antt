-- The words of the root node, but for the heads of lists, and the end word. Of all tasks they depend on one word alone, the
-- address of the one that runs.
use Rattle.std.specs.Prelude.{ℕ, ◌+◌, ◌-◌, Bool, if◌then◌else◌, List, [], ◌∷◌, ◌++◌}
use Rattle.kernel_lists.specs.OwnedWords.Owned.{Pairs, row_from}
use Rattle.kernel_lists.specs.TaskBlock.RootWords.{root_address, table_entry}
use Rattle.kernel_lists.specs.declared.task_block.roots.RootField.TheVariants.{FirstBlock, Running, Table, Tick}
use Rattle.kernel_model.specs.KernelRecord.Lists.{Lists}
use Rattle.kernel_model.specs.KernelRecord.Task.{filled}
use Rattle.kernel_model.specs.KernelRecord.Versions.{highest_id_of}

-- the data of the resident block begin after its size word
abbrev pub resident_data : Bool → ℕ
resident_data residents = if residents then 201 else 0

-- the words 108 to 119: the tick, the sizes of the machine, and seven zeros
abbrev pub number_words : Lists → List ℕ
number_words l = l.tick ∷ l.size ∷ l.period ∷ l.version ∷ resident_data l.residents ∷ filled 7 []

-- the entries of the task table after that of the highest number
abbrev pub unused_entries : ℕ → Pairs
unused_entries version = row_from (table_entry 0) (highest_id_of version + 1) (filled (63 - highest_id_of version) [])

-- the words of the root node, where the task that runs is at this address, and the end word, which is 0
abbrev pub root_words : Lists → ℕ → Pairs
root_words l running =
    (root_address Table, table_entry 0) ∷ (root_address Running, running) ∷ (root_address FirstBlock, 200)
    ∷ (row_from (root_address Tick) 0 (number_words l) ++ ((table_entry 0, highest_id_of l.version) ∷ (unused_entries l.version ++ (l.size - 2, 0) ∷ [])))
