-- The lists of modules and of a task's coroutines.
use Rattle.std.specs.Prelude.{ℕ, ◌+◌, List}
use Rattle.kernel_lists.specs.LinkedList.Chain.{list_at}
use Rattle.kernel_lists.specs.TaskBlock.RootWords.{first_module}
use Rattle.kernel_lists.specs.TaskBlock.TaskWords.{word_index}
use Rattle.kernel_lists.specs.declared.task_block.fields.TcbField.TheVariants.{FirstCo}

-- a module's link is its word 0
abbrev pub module_link : ℕ → ℕ
module_link m = m

-- the modules, the newest first
abbrev pub modules_in : List ℕ → List ℕ
modules_in s = list_at s module_link first_module

-- a coroutine's link is its word 2
abbrev pub coroutine_link : ℕ → ℕ
coroutine_link c = c + 2

-- the head of the coroutines of the task at t
abbrev pub first_coroutine : ℕ → ℕ
first_coroutine t = t + word_index FirstCo

-- the coroutines of the task at t, the newest first
abbrev pub coroutines_in : List ℕ → ℕ → List ℕ
coroutines_in s t = list_at s coroutine_link (first_coroutine t)
