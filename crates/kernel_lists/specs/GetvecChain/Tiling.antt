-- The blocks of a store, which tile its words from 200 up to its end word.
use Rattle.std.specs.Prelude.{◌≡◌, ℕ, zero, suc, ◌+◌, ◌%◌, ◌≤◌, Option, List, [], ◌∷◌, find, length, slice_index, ◌==◌, if◌then◌else◌}
use Rattle.kernel_lists.specs.declared.getvec_chain.pieces.Block.{Block}
use Rattle.kernel_lists.specs.GetvecChain.Block.{block_end, block_of_word, has_data, is_used_at, size_word}

-- the block has its size word in the store, and its size is even and 2 or more
pub record IsBlockIn (s : List ℕ) (b : Block) : Type 0 where
  -- its first word has its size, and whether it is free
  pub word : slice_index s b.start ≡ size_word b
  -- it has at least two words
  pub some : 2 ≤ b.size
  -- it has an even number of them
  pub even : b.size % 2 ≡ 0

-- from the address on the blocks follow one another without a gap up to the end word, which is 0 and the store's last word but one
abbrev pub Tiles : List ℕ → ℕ → List Block → Type 0
Tiles s at [] = (at + 2 ≡ length s) × (slice_index s at ≡ 0)
Tiles s at (b ∷ bs) = (b.start ≡ at) × IsBlockIn s b × Tiles s (block_end b) bs

-- from at to end the blocks follow one another, with even sizes of 2 or more
abbrev pub Follow : ℕ → List Block → ℕ → Type 0
Follow at [] end = at ≡ end
Follow at (b ∷ bs) end = (b.start ≡ at) × (2 ≤ b.size) × (b.size % 2 ≡ 0) × Follow (block_end b) bs end

-- the blocks that the size words make from the address up to the end word, n of them at most
unfoldable pub first_blocks : ℕ → List ℕ → ℕ → List Block
first_blocks zero s at = []
first_blocks (suc n) s at =
    if slice_index s at == 0 then [] else
    block_of_word at (slice_index s at) ∷ first_blocks n s (block_end (block_of_word at (slice_index s at)))

-- the blocks from an address on, which are no more than the store has words
abbrev pub blocks_from : List ℕ → ℕ → List Block
blocks_from s at = first_blocks (length s) s at

-- the blocks of the store
abbrev pub blocks_in : List ℕ → List Block
blocks_in s = blocks_from s 200

-- the words from the address on tile
abbrev pub IsTiledFrom : List ℕ → ℕ → Type 0
IsTiledFrom s at = Tiles s at (blocks_from s at)

-- the words from 200 on tile
abbrev pub IsTiled : List ℕ → Type 0
IsTiled s = IsTiledFrom s 200

-- the block whose data hold the address
abbrev pub holding : ℕ → List Block → Option Block
holding a bs = find (λ b. has_data b a) bs

-- the used block whose data begin at the address
abbrev pub used_at : ℕ → List Block → Option Block
used_at v bs = find (is_used_at v) bs
