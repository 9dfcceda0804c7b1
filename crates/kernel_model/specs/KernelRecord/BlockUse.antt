-- What a block is used for. The lists tell it: a used block that is none of theirs is a user's.
use Rattle.std.specs.Prelude.{ℕ, ◌+◌, ◌==◌, ◌&&◌, if◌then◌else◌, List, map}
use Rattle.std.specs.List.{flat_map}
use Rattle.kernel_lists.specs.LinkedList.Places.{has}
use Rattle.kernel_lists.specs.declared.getvec_chain.pieces.Block.{Block}
use Rattle.kernel_lists.specs.HunkLoader.HeldModules.{module_address}
use Rattle.kernel_lists.specs.Coroutines.HeldCoroutines.{address_of}
use Rattle.kernel_model.specs.declared.kernel_record.uses.Use.{Use}
use Rattle.kernel_model.specs.declared.kernel_record.uses.Use.TheVariants.{Free, OfCoroutine, OfModule, OfResidents, OfTask, User}
use Rattle.kernel_model.specs.KernelRecord.Lists.{Lists}
use Rattle.kernel_model.specs.KernelRecord.Task.{Task, task_address}

-- the addresses of a task's coroutines
abbrev pub coroutine_addresses : Task → List ℕ
coroutine_addresses t = map address_of t.coroutines.list

-- the use of a used block, by the address at which its data begin
abbrev pub use_of_data : Lists → ℕ → Use
use_of_data l v =
    if l.residents && (v == 201) then OfResidents else
    if has v (map task_address l.tasks) then OfTask else
    if has v (map module_address l.modules) then OfModule else
    if has v (flat_map coroutine_addresses l.tasks) then OfCoroutine else
    User

-- the use of a block, free or used
abbrev pub use_of : Lists → Block → Use
use_of l b = if b.free then Free else use_of_data l (b.start + 1)
