-- Which word of the root node has which name.
use Rattle.std.specs.Prelude.{ℕ, ◌+◌}
use Rattle.kernel_lists.specs.declared.task_block.roots.RootField.{RootField}
use Rattle.kernel_lists.specs.declared.task_block.roots.RootField.TheVariants.{Table, FirstTask, Running, FirstBlock, FirstModule, ClockQueue, KeyQueue, OutputQueue, Tick, Size, Period, Version, Residents}

-- the address of each word of the root node
abbrev pub root_address : RootField → ℕ
root_address Table = 100
root_address FirstTask = 101
root_address Running = 102
root_address FirstBlock = 103
root_address FirstModule = 104
root_address ClockQueue = 105
root_address KeyQueue = 106
root_address OutputQueue = 107
root_address Tick = 108
root_address Size = 109
root_address Period = 110
root_address Version = 111
root_address Residents = 112

-- the head of the chain of tasks
abbrev pub first_task : ℕ
first_task = root_address FirstTask

-- the head of the list of modules
abbrev pub first_module : ℕ
first_module = root_address FirstModule

-- the entry of the task table for a number; entry 0 has the highest number
abbrev pub table_entry : ℕ → ℕ
table_entry i = 120 + i
