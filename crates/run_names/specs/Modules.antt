-- The modules of a store, and the tasks that have them.
use Rattle.std.specs.Prelude.{ℕ, ◌+◌, ◌==◌, ◌||◌, if◌then◌else◌, List, nat_lt, slice_index, Option}
use Rattle.std.specs.List.{find}
use Rattle.std.specs.Option.{option_map}
use Rattle.kernel_lists.specs.TaskBlock.Versions.{highest_id}
use Rattle.kernel_lists.specs.declared.task_block.search.TheConstants.{TABLE}
use Rattle.run_names.specs.Known.{Known}
use Rattle.run_names.specs.Programs.{is_loaded}
use Rattle.run_names.specs.declared.modules.NamedModule.{NamedModule}

-- the name of a program
abbrev pub program_name : Known → List ℕ
program_name p = p.name

-- the name of the first of the programs that is at m, if one is
abbrev pub name_in : List Known → List ℕ → ℕ → Option (List ℕ)
name_in programs store m = option_map program_name (find (is_loaded store m) programs)

-- the name of a module
abbrev pub module_name : NamedModule → List ℕ
module_name m = m.name.now

-- the name of the module at m, if one of these is there
abbrev pub name_at : List NamedModule → ℕ → Option (List ℕ)
name_at modules m = option_map module_name (find (λ n. n.at == m) modules)

-- the address of the block of a task, or 0
abbrev pub block_of_task : List ℕ → ℕ → ℕ
block_of_task store id = if id == 0 || nat_lt (highest_id store) id then 0 else slice_index store (TABLE + id)
