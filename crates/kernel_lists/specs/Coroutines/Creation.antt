-- A coroutine is made, and goes.
use Rattle.std.specs.Prelude.{◌≡◌, ℕ, max, List, [], ◌∷◌, slice_index, slice_set}
use Rattle.kernel_lists.specs.GetvecChain.Give.{given_store}
use Rattle.kernel_lists.specs.LinkedList.Places.{without_node}
use Rattle.word_store.specs.Row.{with_words}
use Rattle.kernel_lists.specs.GetvecChain.Take.{IsTaken}
use Rattle.kernel_lists.specs.TaskBlock.Lists.{coroutine_link, first_coroutine}
use Rattle.kernel_lists.specs.Coroutines.CoroutineWords.{bottom}

-- the highest index of a coroutine that is asked for with this one
abbrev pub highest : ℕ → ℕ
highest u = max u 16

-- the words of a new coroutine at c, of which this is the next one
abbrev pub new_words : ℕ → ℕ → ℕ → ℕ → List ℕ
new_words c next entry u = bottom c ∷ 0 ∷ next ∷ entry ∷ highest u ∷ c ∷ entry ∷ 0 ∷ 0 ∷ entry ∷ []

-- t is s, where a block was taken for the coroutine at c, its words were written, and it became the first of the task at `task`
pub record IsCreated (s t : List ℕ) (task c entry u : ℕ) : Type 0 where
  -- the store once the block was taken
  pub taken : List ℕ
  -- the block was taken for so many words
  pub block : IsTaken s taken (highest u) c
  -- the coroutine's words were written, and it is the first of the list
  pub words : t ≡ slice_set (with_words taken c (new_words c (slice_index s (first_coroutine task)) entry u)) (first_coroutine task) c

-- the store in which c went out of the list and its block was given back
abbrev pub deleted : List ℕ → ℕ → ℕ → List ℕ
deleted s t c = given_store (without_node s coroutine_link (first_coroutine t) c) c
