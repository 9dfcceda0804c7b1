-- The words that blocks own: their size words.
use Rattle.std.specs.Prelude.{◌≡◌, ◌<◌, ◌≤◌, ℕ, ◌+◌, ◌-◌, List, [], ◌∷◌, ◌++◌}
use Rattle.std.specs.List.{flat_map}
use Rattle.kernel_lists.specs.OwnedWords.Exchange.{Exchange}
use Rattle.kernel_lists.specs.OwnedWords.Owned.{AreApart, Pairs, owners, written}
use Rattle.kernel_lists.specs.declared.getvec_chain.pieces.Block.{Block}
use Rattle.kernel_lists.specs.declared.getvec_chain.pieces.Run.{Run}
use Rattle.kernel_lists.specs.GetvecChain.Block.{free_block, size_word}
use Rattle.kernel_lists.specs.GetvecChain.Run.{AreFree, need}
use Rattle.kernel_lists.specs.GetvecChain.Take.{left_over}
use Rattle.kernel_lists.specs.GetvecChain.Tiling.{Follow, blocks_in}

-- the one word that a block owns: its size word, whose lowest bit says that the block is free
abbrev pub block_words : Block → Pairs
block_words b = (b.start, size_word b) ∷ []

-- the size words of blocks, in their order
abbrev pub blocks_words : List Block → Pairs
blocks_words bs = flat_map block_words bs

-- the size words that a take of n words writes, that of the rest first
abbrev pub taken_words : Run → ℕ → Pairs
taken_words run n = blocks_words (left_over (run.start + n) (run.end - (run.start + n))) ++ (run.start, n) ∷ []

-- What a take exchanges: for the size words of the free blocks of the run, those of the taken block and of the rest.
pub record TakeExchange (s t : List ℕ) (u : ℕ) : Type 0 where
  -- the run that the block is cut from
  pub run : Run
  -- the blocks before it
  pub before : List Block
  -- the free blocks in it
  pub free : List Block
  -- the blocks after it
  pub after : List Block
  -- these are all blocks
  pub is : blocks_in s ≡ before ++ (free ++ after)
  -- those in the run are free
  pub are_free : AreFree free
  -- they fill it
  pub fills : Follow run.start free run.end
  -- their size words go, and those of the block and of what is left come
  pub exchange : Exchange (blocks_words (blocks_in s)) (blocks_words (blocks_in t)) (blocks_words free) (taken_words run (need u))
  -- these alone are written
  pub words : t ≡ written (taken_words run (need u)) s
  -- each has an address of its own
  pub once : AreApart (taken_words run (need u))
  -- they lie in the run
  pub within : (a : ℕ) → 0 < owners a (taken_words run (need u)) → (run.start ≤ a) × (a < run.end)

-- What a give exchanges: the size word of a used block for that of a free one.
pub record GiveExchange (s t : List ℕ) (b : Block) : Type 0 where
  -- the blocks before it
  pub before : List Block
  -- the blocks after it
  pub after : List Block
  -- these are all blocks
  pub is : blocks_in s ≡ before ++ (b ∷ after)
  -- then the block is free
  pub becomes : blocks_in t ≡ before ++ (free_block b.start b.size ∷ after)
  -- its size word is that of a free block
  pub exchange : Exchange (blocks_words (blocks_in s)) (blocks_words (blocks_in t)) ((b.start, b.size) ∷ []) ((b.start, b.size + 1) ∷ [])
  -- this alone is written
  pub words : t ≡ written ((b.start, b.size + 1) ∷ []) s
