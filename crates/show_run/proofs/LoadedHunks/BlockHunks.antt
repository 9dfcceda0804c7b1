-- The hunks in the blocks of a store, block by block.
use Rattle.std.proofs.Common.{ℕ, ◌<◌, ◌≤◌, ◌+◌, ◌^◌, List, [], ◌∷◌, length, arith}
use Rattle.std.specs.List.{AllByRecursion}
use Rattle.kernel_lists.specs.GetvecChain.Block.{block_end}
use Rattle.kernel_lists.specs.GetvecChain.Tiling.{Tiles}
use Rattle.kernel_lists.specs.declared.getvec_chain.pieces.Block.{Block}
use Rattle.kernel_lists.proofs.GetvecChain.Tilings.{Tiles-inside}

-- a block is in a store
abbrev pub IsInside : List ℕ → Block → Type 0
IsInside s b = (b.start + 1 < 2 ^ 32) × (b.start + b.size ≤ length s)

-- blocks that tile a store are in it
pub tiles-all : (s : List ℕ) (at : ℕ) (bs : List Block) → length s < 2 ^ 32 → Tiles s at bs → AllByRecursion (IsInside s) bs
tiles-all s at [] low t = tt
tiles-all s at (b ∷ bs) low t =
    let after : b.start + b.size + 2 ≤ length s = Tiles-inside s (block_end b) bs t.2 in
    ((omega (arith, low, t.1.some, after), omega (arith, after)), tiles-all s (block_end b) bs low t.2)
