-- The words of a coroutine, and where a task keeps its root.
-- A coroutine's words are 0 its saved P, 1 its parent, 2 its link, 3 its function, 4 its highest index, 5 its own address, 6 its
-- saved PC, and 7 to 9 its bottom frame: 0, 0 and its function.
use Rattle.std.specs.Prelude.{ℕ, ◌+◌, ◌==◌, if◌then◌else◌, List, slice_index}
use Rattle.kernel_lists.specs.TaskBlock.TaskWords.{word_index}
use Rattle.kernel_lists.specs.declared.task_block.fields.TcbField.TheVariants.{CurrentCo, RootP, RootPc}

-- a coroutine has 10 words, whichever it is
abbrev pub coroutine_size : ℕ → ℕ
coroutine_size c = 10

-- the word of a coroutine that has its parent
abbrev pub parent_cell : ℕ → ℕ
parent_cell c = c + 1

-- the frame at the bottom of a coroutine's stack
abbrev pub bottom : ℕ → ℕ
bottom c = c + 7

-- the word of a task that names its current coroutine, 0 in its root
abbrev pub current_cell : ℕ → ℕ
current_cell t = t + word_index CurrentCo

-- what names the current coroutine of the task at t, 0 while its root is current
abbrev pub current_in : List ℕ → ℕ → ℕ
current_in s t = slice_index s (current_cell t)

-- the parent of the coroutine at c: another one, its task where that is the root, or 0 while c is not active
abbrev pub parent_in : List ℕ → ℕ → ℕ
parent_in s c = slice_index s (parent_cell c)

-- the byte address of the function with which the coroutine at c begins
abbrev pub function_in : List ℕ → ℕ → ℕ
function_in s c = slice_index s (c + 3)

-- the highest index of a word of the coroutine at c
abbrev pub highest_in : List ℕ → ℕ → ℕ
highest_in s c = slice_index s (c + 4)

-- where the P of a coroutine is kept, or that of the root of the task at t, which 0 names
abbrev pub saved_p : ℕ → ℕ → ℕ
saved_p t c = if c == 0 then t + word_index RootP else c

-- where the PC of a coroutine is kept, or that of the root of the task at t, which 0 names
abbrev pub saved_pc : ℕ → ℕ → ℕ
saved_pc t c = if c == 0 then t + word_index RootPc else c + 6

-- how a coroutine is named where it is a parent: by its address, and the root by the address of its task
abbrev pub as_parent : ℕ → ℕ → ℕ
as_parent t c = if c == 0 then t else c

-- how it is named where it is current: by its address, and the root by 0
abbrev pub as_current : ℕ → ℕ → ℕ
as_current t p = if p == t then 0 else p

-- what goes on when the current coroutine of the task at t leaves: its parent, or the root, which 0 names
abbrev pub current_parent : List ℕ → ℕ → ℕ
current_parent s t = as_current t (parent_in s (current_in s t))
