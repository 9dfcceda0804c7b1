-- The modules of a store: a list of used blocks, the newest first.
use Rattle.std.specs.Prelude.{◌≡◌, ℕ, ◌+◌, Some, List, sum}
use Rattle.std.specs.List.{AllByRecursion}
use Rattle.kernel_lists.specs.declared.getvec_chain.pieces.Block.{Block}
use Rattle.kernel_lists.specs.LinkedList.Chain.{IsChain}
use Rattle.word_store.specs.Count.{IsApart}
use Rattle.kernel_lists.specs.GetvecChain.Run.{need}
use Rattle.kernel_lists.specs.GetvecChain.Tiling.{IsTiled, blocks_in, used_at}
use Rattle.kernel_lists.specs.TaskBlock.Lists.{module_link, modules_in}
use Rattle.kernel_lists.specs.TaskBlock.RootWords.{first_module}
use Rattle.kernel_lists.specs.HunkLoader.ModuleHunks.{hunk_count, lengths_in}

-- at m the data of a used block begin, which is as large as the module's words need
pub record IsModuleAt (s : List ℕ) (m : ℕ) : Type 0 where
  -- its block
  pub block : Block
  -- the block is used, and its data begin with the module
  pub used : used_at m (blocks_in s) ≡ Some block
  -- it has the words that the module needs
  pub size : block.size ≡ need (1 + hunk_count s m + sum (lengths_in s m))

-- blocks and modules are in order: the words from 200 on tile, the links from the head on lead through modules, and none of them
-- is twice in the list
pub record HasModules (s : List ℕ) : Type 0 where
  -- the store is tiled by blocks
  pub tiled : IsTiled s
  -- the links lead through the modules to an end
  pub chain : IsChain s module_link first_module (modules_in s)
  -- each is in a block of its own
  pub modules : AllByRecursion (IsModuleAt s) (modules_in s)
  -- none is there twice
  pub apart : IsApart (modules_in s)
