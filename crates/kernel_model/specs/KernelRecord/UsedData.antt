-- Where owned words lie: in the root, in a size word, or in the data of a used block.
use Rattle.std.specs.Prelude.{◌≡◌, ℕ, ◌+◌, ◌⊎◌, ◌<◌, false, Some, List}
use Rattle.kernel_lists.specs.OwnedWords.Owned.{owners}
use Rattle.kernel_lists.specs.declared.getvec_chain.pieces.Block.{Block}
use Rattle.kernel_lists.specs.GetvecChain.BlockWords.{blocks_words}
use Rattle.kernel_lists.specs.GetvecChain.Tiling.{holding}
use Rattle.kernel_lists.specs.TaskBlock.TaskChain.{root_words}
use Rattle.word_store.specs.Count.{times}
use Rattle.kernel_model.specs.KernelRecord.Lists.{Lists}

-- the word at the address is one of the data of a used block
pub record IsUsedData (bs : List Block) (a : ℕ) : Type 0 where
  -- the block
  pub block : Block
  -- it has the word among its data
  pub holds : holding a bs ≡ Some block
  -- it is not free
  pub used : block.free ≡ false

-- the word is one of the words 100 to 183, or the end word
abbrev pub IsRootWord : Lists → ℕ → Type 0
IsRootWord l a = (0 < times a root_words) ⊎ (a + 2 ≡ l.size)

-- a size word of a block
abbrev pub IsSizeWord : Lists → ℕ → Type 0
IsSizeWord l a = 0 < owners a (blocks_words l.blocks)

-- an owned word lies in one of these three
abbrev pub OwnedWhere : Lists → ℕ → Type 0
OwnedWhere l a = IsRootWord l a ⊎ IsSizeWord l a ⊎ IsUsedData l.blocks a
