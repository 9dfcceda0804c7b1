-- What a turn of the shell leaves of the lists.
use Rattle.std.specs.Prelude.{◌≡◌}
use Rattle.kernel_model.specs.KernelRecord.Lists.{Lists}

-- all but the blocks, the modules and the tasks
pub record KeepsRest (l m : Lists) : Type 0 where
  -- all other parts of the lists are the same
  pub rest : m ≡ record l { blocks = m.blocks; modules = m.modules; tasks = m.tasks }
