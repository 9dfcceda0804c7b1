-- Which hunks of a map are loaded in a machine.
use Rattle.std.specs.Prelude.{ℕ, if◌then◌else◌, List, [], take, drop}
use Rattle.std.specs.List.{flat_map}
use Rattle.kernel_lists.specs.declared.getvec_chain.pieces.Block.{Block}
use Rattle.kernel_model.specs.KernelRecord.BlockUse.{use_of}
use Rattle.kernel_model.specs.KernelRecord.Lists.{Lists}
use Rattle.kernel_model.specs.declared.kernel_record.uses.Use.{Use}
use Rattle.kernel_model.specs.declared.kernel_record.uses.Use.TheVariants.{OfModule}
use Rattle.tripos_machine.specs.State.{State, words_of}
use Rattle.tripos_machine.specs.State.State.{Bare, Full}
use Rattle.program_places.specs.Loaded.{hunks_along, is_placed, placed_hunks}
use Rattle.program_places.specs.declared.loaded.LoadedHunk.{LoadedHunk}
use Rattle.program_places.specs.declared.maps.MappedHunk.{MappedHunk}
use Rattle.program_places.specs.declared.maps.ProgramMap.{ProgramMap}

-- the hunks that are in a block with this use
abbrev pub hunks_in_block : List MappedHunk → List ℕ → Block → Use → List LoadedHunk
hunks_in_block hunks words block OfModule = hunks_along hunks block.start (take block.size (drop block.start words))
hunks_in_block hunks words block _ = []

-- the hunks that are in these blocks
abbrev pub hunks_in_blocks : List MappedHunk → List ℕ → Lists → List Block → List LoadedHunk
hunks_in_blocks hunks words l blocks = flat_map (λ block. hunks_in_block hunks words block (use_of l block)) blocks

-- the hunks that are in a machine's blocks of modules
abbrev pub machine_hunks : List MappedHunk → State → List LoadedHunk
machine_hunks hunks (Bare m) = []
machine_hunks hunks (Full k) = hunks_in_blocks hunks (words_of (Full k)) k.lists k.lists.blocks

-- the hunks of a map that are loaded in a machine, in rising order of their addresses
abbrev pub loaded_hunks : ProgramMap → State → List LoadedHunk
loaded_hunks map s = if is_placed map then placed_hunks map else machine_hunks map.hunks s
