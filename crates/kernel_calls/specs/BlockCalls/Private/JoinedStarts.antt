-- Of which words a keeper of kinds is told where free blocks of a run are joined and a block is taken of them.
use Rattle.std.specs.Prelude.{ℕ, ◌&&◌, Bool, if◌then◌else◌, List, [], ◌∷◌, nat_lt}
use Rattle.std.specs.List.{flat_map}
use Rattle.kernel_lists.specs.declared.getvec_chain.pieces.Block.{Block}
use Rattle.kernel_lists.specs.declared.getvec_chain.pieces.Run.{Run}

-- the block lies in the run, and is not its front
abbrev pub is_joined : Run → Block → Bool
is_joined run b = nat_lt run.start b.start && nat_lt b.start run.end

-- the start of a block that is joined to the free block before it: its size word is no size word any more
abbrev pub joined_start : Run → Block → List ℕ
joined_start run b = if is_joined run b then b.start ∷ [] else []

-- the starts of all blocks that are joined so in a run
abbrev pub joined_starts : Run → List Block → List ℕ
joined_starts run bs = flat_map (joined_start run) bs

-- the start of what is left up to the end, where anything is
abbrev pub rest_start : ℕ → ℕ → List ℕ
rest_start rest end = if nat_lt rest end then rest ∷ [] else []
