-- Coroutines of a task whose words a store holds.
use Rattle.std.specs.Prelude.{◌≡◌, ℕ, ◌+◌, ◌≤◌, ◌==◌, if◌then◌else◌, true, false, Some, List, [], ◌∷◌, map}
use Rattle.std.specs.List.{AllByRecursion}
use Rattle.kernel_lists.specs.GetvecChain.Block.{used_block}
use Rattle.kernel_lists.specs.GetvecChain.Run.{need}
use Rattle.kernel_lists.specs.GetvecChain.Tiling.{IsTiled, blocks_in, used_at}
use Rattle.word_store.specs.Count.{IsApart, node_words, times}
use Rattle.kernel_lists.specs.LinkedList.Places.{has}
use Rattle.kernel_lists.specs.OwnedWords.LinkedWords.{AreHeld, first_of, linked_words}
use Rattle.kernel_lists.specs.OwnedWords.Owned.{Pairs, owners, row_from}
use Rattle.kernel_lists.specs.TaskBlock.Lists.{first_coroutine}
use Rattle.kernel_lists.specs.TaskBlock.TaskChain.{task_size}
use Rattle.kernel_lists.specs.Coroutines.Coroutines.{HasTaskBlock}
use Rattle.kernel_lists.specs.Coroutines.CoroutineWords.{current_in}

-- A coroutine of a task.
pub record Coroutine : Type 0 where
  -- the word address of its word 0, where the data of its block begin
  pub address : ℕ
  -- the byte address of its function
  pub function : ℕ
  -- the highest index of its block's data, 16 or more
  pub highest : ℕ
  -- its P while it does not run, a word address; while it runs the one at which it ran last
  pub saved_p : ℕ
  -- its PC while it does not run, a byte address; while it runs the one at which it ran last
  pub saved_pc : ℕ

-- where the words of a coroutine begin
abbrev pub address_of : Coroutine → ℕ
address_of c = c.address

-- the first of these active ones, or what is named where there is none
abbrev pub first_active : List ℕ → ℕ → ℕ
first_active cs none = first_of (λ c. c) cs none

-- the parent of a coroutine of the task at t: the next active one, the task for the last, and 0 where it is not active
abbrev pub parent_of : ℕ → List ℕ → ℕ → ℕ
parent_of t [] c = 0
parent_of t (d ∷ ds) c = if c == d then first_active ds t else parent_of t ds c

-- the words of a coroutine of the task at t, where these are active
abbrev pub coroutine_words : ℕ → List ℕ → Coroutine → ℕ → Pairs
coroutine_words t act c link =
    row_from c.address 0
    (c.saved_p ∷ parent_of t act c.address ∷ link ∷ c.function ∷ c.highest ∷ c.address ∷ c.saved_pc ∷ 0 ∷ 0 ∷ c.function ∷ [])

-- the coroutine is alone in its block
pub record HasCoroutineBlock (s : List ℕ) (c : Coroutine) : Type 0 where
  -- where its block begins
  pub start : ℕ
  -- it comes after the block's size word
  pub here : c.address ≡ start + 1
  -- the block has the words that its stack needs
  pub block : used_at c.address (blocks_in s) ≡ Some (used_block start (need c.highest))
  -- its highest index is at least 16
  pub high : 16 ≤ c.highest

-- the store holds the words of these coroutines of the task at t, from the head on, and these are active
pub record HeldCoroutines (s : List ℕ) (t : ℕ) (cs : List Coroutine) (act : List ℕ) : Type 0 where
  -- the store is tiled by blocks
  pub tiled : IsTiled s
  -- the task lies in a block
  pub task : HasTaskBlock s t
  -- no coroutine lies in that block
  pub elsewhere : has task.first (map address_of cs) ≡ false
  -- the store holds their words
  pub held : AreHeld address_of (coroutine_words t act) s (first_coroutine t) cs
  -- no word of theirs is one of the task's, or of another one
  pub apart : (a : ℕ) → times a (node_words task_size t) + owners a (linked_words address_of (coroutine_words t act) cs 0) ≤ 1
  -- the current one is the first active one
  pub current : current_in s t ≡ first_active act 0
  -- each lies in a block of its own
  pub blocks : AllByRecursion (HasCoroutineBlock s) cs
  -- the active ones are among them
  pub members : AllByRecursion (λ c. has c (map address_of cs) ≡ true) act
  -- none of them is active twice
  pub distinct : IsApart act
