-- What depends on the version of the layout, which the root has.
use Rattle.std.specs.Prelude.{ℕ, ◌+◌, ◌==◌, if◌then◌else◌, List, slice_index}
use Rattle.kernel_lists.specs.TaskBlock.RootWords.{root_address, table_entry}
use Rattle.kernel_lists.specs.declared.task_block.roots.RootField.TheVariants.{Version}

-- the highest number of a task
abbrev pub highest_id : List ℕ → ℕ
highest_id s = slice_index s (table_entry 0)

-- the words of a guest's task block
abbrev pub head_words : List ℕ → ℕ
head_words s = if slice_index s (root_address Version) == 2 then 30 else 23

-- the most modules of a task
abbrev pub most_modules : List ℕ → ℕ
most_modules s = if slice_index s (root_address Version) == 2 then 8 else 1

-- the word of a task block that has the i-th module: word 10, and from the second on word 21 + i
abbrev pub module_index : ℕ → ℕ
module_index i = if i == 1 then 10 else 21 + i
