-- Modules whose words a store holds.
use Rattle.std.specs.Prelude.{◌≡◌, ℕ, ◌+◌, Some, List, ◌∷◌, length, sum}
use Rattle.std.specs.List.{AllByRecursion}
use Rattle.kernel_lists.specs.declared.getvec_chain.pieces.Block.{Block}
use Rattle.kernel_lists.specs.GetvecChain.Run.{need}
use Rattle.kernel_lists.specs.GetvecChain.Tiling.{IsTiled, blocks_in, used_at}
use Rattle.kernel_lists.specs.OwnedWords.LinkedWords.{AreHeld}
use Rattle.kernel_lists.specs.OwnedWords.Owned.{Pairs, row_from}
use Rattle.kernel_lists.specs.TaskBlock.RootWords.{first_module}

-- A module in the store.
pub record LoadedModule : Type 0 where
  -- the word address of its word 0, where the data of its block begin
  pub address : ℕ
  -- how many words each of its hunks has, in their order
  pub lengths : List ℕ

-- where the words of a module begin
abbrev pub module_address : LoadedModule → ℕ
module_address m = m.address

-- the words that a module owns: its link, its number of hunks, and their lengths
abbrev pub module_words : LoadedModule → ℕ → Pairs
module_words m link = (m.address, link) ∷ row_from m.address 1 (length m.lengths ∷ m.lengths)

-- the module has a block of its size
pub record HasModuleBlock (s : List ℕ) (m : LoadedModule) : Type 0 where
  -- the block
  pub block : Block
  -- it is used, and its data begin with the module
  pub used : used_at m.address (blocks_in s) ≡ Some block
  -- it has the words that the module needs
  pub size : block.size ≡ need (1 + length m.lengths + sum m.lengths)

-- the store holds the words of these modules, from the head on
pub record HeldModules (s : List ℕ) (ms : List LoadedModule) : Type 0 where
  -- the store is tiled by blocks
  pub tiled : IsTiled s
  -- the store holds their words
  pub held : AreHeld module_address module_words s first_module ms
  -- each has a block of its own
  pub blocks : AllByRecursion (HasModuleBlock s) ms
