-- A module is loaded, or not.
use Rattle.std.specs.Prelude.{◌≡◌, ℕ, None, Err, List, slice_index, slice_set}
use Rattle.word_store.specs.Row.{with_words}
use Rattle.kernel_lists.specs.GetvecChain.Run.{first_run, need}
use Rattle.kernel_lists.specs.GetvecChain.Take.{IsTaken, taken}
use Rattle.kernel_lists.specs.GetvecChain.Tiling.{blocks_in}
use Rattle.module_text.specs.ModuleForm.{IsModule}
use Rattle.module_text.specs.Shapes.{check_of}
use Rattle.module_text.specs.declared.modules.Module.{Module}
use Rattle.kernel_lists.specs.HunkLoader.ModuleRow.{last_word, module_row}
use Rattle.kernel_lists.specs.declared.hunk_loader.calls.LoadEnd.{LoadEnd}
use Rattle.kernel_lists.specs.declared.hunk_loader.calls.LoadEnd.TheVariants.{Module as BadText, NoRoom}

-- the store t is s, where a block was taken for the module of the text, and its words were put there, from the link to the
-- end of the last hunk, and its address in word 104
pub record IsLoaded (s t text : List ℕ) (m : ℕ) : Type 0 where
  -- the module
  pub hunks : Module
  -- the text is this module
  pub is : IsModule text hunks
  -- the store once the block was taken
  pub with_block : List ℕ
  -- the block was taken for so many words
  pub block : IsTaken s with_block (last_word hunks.hunks) m
  -- the blocks then
  pub blocks : blocks_in t ≡ taken (need (last_word hunks.hunks)) (blocks_in s)
  -- the module's words were written, and it is the first of the list
  pub words : t ≡ slice_set (with_words with_block m (module_row (slice_index s 104) m hunks.hunks)) 104 m

-- the text is no module, and this is the code; or it is, and no run of free blocks is large enough for its words
abbrev pub IsRefused : List ℕ → List ℕ → LoadEnd → Type 0
IsRefused s text (BadText code) = check_of text ≡ Err code
IsRefused s text NoRoom = (hunks : Module) × IsModule text hunks × (first_run (need (last_word hunks.hunks)) (blocks_in s) ≡ None)
