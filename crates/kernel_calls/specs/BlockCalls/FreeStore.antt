-- A block that is taken from the kernel's free store.
use Rattle.std.specs.Prelude.{ℕ, ◌+◌, Bool, Option, Some, None, is_some}
use Rattle.kernel_lists.specs.declared.getvec_chain.pieces.Run.{Run}
use Rattle.kernel_lists.specs.GetvecChain.Run.{first_run, need}
use Rattle.kernel_lists.specs.GetvecChain.Take.{taken}
use Rattle.kernel_model.specs.KernelRecord.Changes.{with_blocks}
use Rattle.kernel_model.specs.KernelRecord.Lists.{Lists}

-- whether some run is large enough for a block with the data words 0 to u
abbrev pub has_room : ℕ → Lists → Bool
has_room u l = is_some (first_run (need u) l.blocks)

-- the first data word of a block that is at the front of a run
abbrev pub data_of_front : Option Run → ℕ
data_of_front None = 0
data_of_front (Some run) = run.start + 1

-- where the data of such a block will begin
abbrev pub data_taken : ℕ → Lists → ℕ
data_taken u l = data_of_front (first_run (need u) l.blocks)

-- the lists once it was taken
abbrev pub with_taken : ℕ → Lists → Lists
with_taken u l = with_blocks (taken (need u) l.blocks) l
