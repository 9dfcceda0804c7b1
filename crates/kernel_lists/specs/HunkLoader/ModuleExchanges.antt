-- What the calls do to the words that modules own.
use Rattle.std.specs.Prelude.{◌≡◌, ℕ, ◌+◌, List, [], ◌∷◌, ◌++◌, length, sum}
use Rattle.kernel_lists.specs.declared.getvec_chain.pieces.Block.{Block}
use Rattle.kernel_lists.specs.GetvecChain.BlockWords.{GiveExchange, TakeExchange}
use Rattle.kernel_lists.specs.GetvecChain.Run.{need}
use Rattle.kernel_lists.specs.GetvecChain.Tiling.{blocks_in}
use Rattle.module_text.specs.ModuleForm.{IsModule}
use Rattle.module_text.specs.declared.modules.Hunk.{Hunk}
use Rattle.module_text.specs.declared.modules.Module.{Module}
use Rattle.kernel_lists.specs.LinkedList.Chain.{last_cell}
use Rattle.kernel_lists.specs.OwnedWords.Exchange.{Exchange}
use Rattle.kernel_lists.specs.OwnedWords.LinkedWords.{first_of, headed_words}
use Rattle.kernel_lists.specs.OwnedWords.Owned.{Pairs, row_from, written}
use Rattle.kernel_lists.specs.TaskBlock.RootWords.{first_module}
use Rattle.kernel_lists.specs.HunkLoader.HeldModules.{LoadedModule, module_address, module_words}
use Rattle.kernel_lists.specs.HunkLoader.ModuleRow.{hunks_image, last_word, lengths_of}

-- the words of modules, from the head on
abbrev pub modules_words : List LoadedModule → Pairs
modules_words ms = headed_words module_address module_words first_module ms 0

-- the first of these modules, or 0
abbrev pub first_of_modules : List LoadedModule → ℕ
first_of_modules ms = first_of module_address ms 0

-- the module of these hunks at an address
abbrev pub loaded_module : ℕ → List Hunk → LoadedModule
loaded_module m hunks = record { address = m; lengths = lengths_of hunks }

-- the head that leads to it, and its words before those of the hunks
abbrev pub loaded_words : ℕ → List Hunk → List LoadedModule → Pairs
loaded_words m hunks ms = (first_module, m) ∷ module_words (loaded_module m hunks) (first_of_modules ms)

-- the relocated words of the hunks, which nobody owns
abbrev pub hunk_words : ℕ → List Hunk → Pairs
hunk_words m hunks = row_from m (2 + length hunks) (hunks_image (m + 2 + length hunks) hunks)

-- A block is taken for the module of the text, and then the head is exchanged for these words. Written are they and the words
-- of the hunks.
pub record LoadExchange (s t text : List ℕ) (ms : List LoadedModule) (m : ℕ) : Type 0 where
  -- the module
  pub found : Module
  -- the text is this module
  pub is : IsModule text found
  -- the store once the block was taken
  pub taken : List ℕ
  -- what taking it exchanges
  pub block : TakeExchange s taken (last_word found.hunks)
  -- what the new module exchanges
  pub exchange : Exchange
      (modules_words ms)
      (modules_words (loaded_module m found.hunks ∷ ms))
      ((first_module, first_of_modules ms) ∷ [])
      (loaded_words m found.hunks ms)
  -- its words alone are written
  pub writes : t ≡ written (loaded_words m found.hunks ms ++ hunk_words m found.hunks) taken

-- the word that leads on after these modules
abbrev pub link_behind : List LoadedModule → ℕ
link_behind front = last_cell module_address first_module front

-- The module m goes out from between two parts of the list: the link to it and its words are exchanged for the link that leads
-- past it, which is written, and then its block is given back.
pub record UnloadExchange (s t : List ℕ) (front : List LoadedModule) (m : LoadedModule) (back : List LoadedModule) : Type 0 where
  -- the store once the module was linked out
  pub unlinked : List ℕ
  -- what linking it out exchanges
  pub exchange : Exchange
      (modules_words (front ++ m ∷ back))
      (modules_words (front ++ back))
      ((link_behind front, m.address) ∷ module_words m (first_of_modules back))
      ((link_behind front, first_of_modules back) ∷ [])
  -- the link before it alone is written
  pub writes : unlinked ≡ written ((link_behind front, first_of_modules back) ∷ []) s
  -- the blocks are as they were
  pub same_blocks : blocks_in unlinked ≡ blocks_in s
  -- its block
  pub block : Block
  -- it comes after the block's size word
  pub here : m.address ≡ block.start + 1
  -- the block has the words that it needs
  pub size : block.size ≡ need (1 + length m.lengths + sum m.lengths)
  -- what giving the block back exchanges
  pub give : GiveExchange unlinked t block
