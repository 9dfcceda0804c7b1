-- A task that is to begin at its function, without a packet.
use Rattle.std.specs.Prelude.{ℕ, ◌+◌, List, slice_index}
use Rattle.word_store.specs.declared.registers.Regs.{Regs}
use Rattle.kernel_model.specs.KernelRecord.Changes.{with_task}
use Rattle.kernel_model.specs.KernelRecord.Lists.{Lists}
use Rattle.kernel_model.specs.KernelRecord.Task.{Task, globals_of, stack_of}
use Rattle.kernel_model.specs.KernelRecord.ValidTasks.{interrupted}

-- the registers with which a task begins at its function: that of its global 1, on its own stack and with its own globals
abbrev pub begin_regs : ℕ → List ℕ → Task → Regs
begin_regs version words t = record {
  a = 0;
  b = 0;
  c = 0;
  p = stack_of version t;
  g = globals_of version t;
  pc = slice_index words (globals_of version t + 1);
}

-- a task that is to begin at its function: as if it was interrupted before the first instruction
abbrev pub begun : ℕ → List ℕ → Task → Task
begun version words t = record t { field = interrupted; saved = begin_regs version words t }

-- the lists once the task with the number is to begin so
abbrev pub with_begun : List ℕ → ℕ → Lists → Lists
with_begun words id l = with_task id (begun l.version words) l
