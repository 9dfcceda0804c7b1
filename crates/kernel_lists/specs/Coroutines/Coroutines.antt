-- The coroutines of a task, in a store with blocks.
use Rattle.std.specs.Prelude.{◌≡◌, ℕ, ◌+◌, ◌≤◌, true, false, Some, List, ◌++◌}
use Rattle.std.specs.List.{AllByRecursion}
use Rattle.kernel_lists.specs.declared.getvec_chain.pieces.Block.{Block}
use Rattle.kernel_lists.specs.GetvecChain.Block.{block_end, used_block}
use Rattle.word_store.specs.Count.{IsApart, node_words, words_of}
use Rattle.kernel_lists.specs.LinkedList.Linked.{HasList}
use Rattle.kernel_lists.specs.LinkedList.Places.{has}
use Rattle.kernel_lists.specs.GetvecChain.Run.{need}
use Rattle.kernel_lists.specs.GetvecChain.Tiling.{IsTiled, blocks_in, used_at}
use Rattle.kernel_lists.specs.TaskBlock.Lists.{coroutine_link, coroutines_in, first_coroutine}
use Rattle.kernel_lists.specs.TaskBlock.TaskChain.{task_size}
use Rattle.kernel_lists.specs.Coroutines.Active.{LeadsOut, active_in}
use Rattle.kernel_lists.specs.Coroutines.CoroutineWords.{coroutine_size, current_cell, highest_in, parent_in}

-- a coroutine is alone in a block of the size that its highest index needs, which is 16 or more
pub record HasBlock (s : List ℕ) (c : ℕ) : Type 0 where
  -- where its block begins
  pub start : ℕ
  -- it comes after the block's size word
  pub here : c ≡ start + 1
  -- the block has the words that its stack needs
  pub block : used_at c (blocks_in s) ≡ Some (used_block start (need (highest_in s c)))
  -- its highest index is at least 16
  pub high : 16 ≤ highest_in s c

-- the words of the task block at t, which are data of one used block
pub record HasTaskBlock (s : List ℕ) (t : ℕ) : Type 0 where
  -- where the data of the block begin
  pub first : ℕ
  -- the block
  pub block : Block
  -- it is used
  pub used : used_at first (blocks_in s) ≡ Some block
  -- the task's words begin in it
  pub low : first ≤ t
  -- they end in it
  pub high : t + task_size t ≤ block_end block

-- there is the list of the coroutines of the task at t
pub record HasCoroutines (s : List ℕ) (t : ℕ) : Type 0 where
  -- the store is tiled by blocks
  pub tiled : IsTiled s
  -- the task lies in a block
  pub task : HasTaskBlock s t
  -- the task block lies in no coroutine's block
  pub elsewhere : has task.first (coroutines_in s t) ≡ false
  -- the links from the task block on lead through its coroutines
  pub list : HasList s coroutine_link coroutine_size (first_coroutine t)
  -- their words meet neither one another nor the task block
  pub apart : IsApart (node_words task_size t ++ words_of coroutine_size (coroutines_in s t))
  -- each lies in a block of its size
  pub blocks : AllByRecursion (HasBlock s) (coroutines_in s t)
  -- the active ones are distinct, and each other one has the parent 0
  pub active : LeadsOut s t 0 (current_cell t) (active_in s t)
  -- each active one is one of them
  pub members : AllByRecursion (λ c. has c (coroutines_in s t) ≡ true) (active_in s t)
  -- none of them is active twice
  pub distinct : IsApart (active_in s t)
  -- one that is not active has no parent
  pub idle : AllByRecursion (λ c. has c (active_in s t) ≡ false → parent_in s c ≡ 0) (coroutines_in s t)
