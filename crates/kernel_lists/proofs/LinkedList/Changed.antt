-- What a store has become where one node was linked in, or out: only its own words and the cell before it have changed.
use Rattle.std.specs.Prelude.{◌≡◌, ◌≢◌, ℕ, List, length, slice_index}
use Rattle.word_store.specs.Count.{node_words, times}

-- p comes after the cell, and leads where the cell led
pub record InsertedAt (s t : List ℕ) (link size : ℕ → ℕ) (cell p : ℕ) : Type 0 where
  -- the store has as many words
  pub same_length : length t ≡ length s
  -- the new node's link leads where the cell led
  pub to : slice_index t (link p) ≡ slice_index s cell
  -- the cell leads to the new node
  pub from : slice_index t cell ≡ p
  -- all other words but those of the node are as they were
  pub others : (a : ℕ) → a ≢ cell → times a (node_words size p) ≡ 0 → slice_index t a ≡ slice_index s a

-- the cell leads where p led
pub record RemovedAt (s t : List ℕ) (link size : ℕ → ℕ) (cell p : ℕ) : Type 0 where
  -- the store has as many words
  pub same_length : length t ≡ length s
  -- the cell leads where the node's link led
  pub from : slice_index t cell ≡ slice_index s (link p)
  -- all other words but those of the node are as they were
  pub others : (a : ℕ) → a ≢ cell → times a (node_words size p) ≡ 0 → slice_index t a ≡ slice_index s a
