-- A block is given back.
use Rattle.std.specs.Prelude.{ℕ, ◌+◌, ◌-◌, List, map, slice_index, slice_set, if◌then◌else◌}
use Rattle.kernel_lists.specs.declared.getvec_chain.pieces.Block.{Block}
use Rattle.kernel_lists.specs.GetvecChain.Block.{free_block, is_used_at}

-- the blocks, where the used one whose data begin at v is free
abbrev pub given : ℕ → List Block → List Block
given v bs = map (λ b. if is_used_at v b then free_block b.start b.size else b) bs

-- the store, where 1 was added to the size word of the block whose data begin at v
abbrev pub given_store : List ℕ → ℕ → List ℕ
given_store s v = slice_set s (v - 1) (slice_index s (v - 1) + 1)
