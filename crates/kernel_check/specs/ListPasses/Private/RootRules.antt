-- The numbers of the root, and its fixed words.
use Rattle.std.specs.Prelude.{◌≡◌, ℕ, ◌+◌, ◌-◌, ◌<◌, ◌⊎◌, IsTrue, List, length, slice_index}
use Rattle.kernel_model.specs.KernelRecord.Ranges.{IsVersion, is_period, is_store_size}
use Rattle.kernel_model.specs.KernelRecord.Versions.{highest_id_of}

-- The words 109, 110 and 111 are a size, a period and a version.
pub record NumbersMayBe (s : List ℕ) : Type 0 where
  -- the store has as many words
  pub size : length s ≡ slice_index s 109
  -- the version is 1 or 2
  pub version : IsVersion (slice_index s 111)
  -- the size is one that the version allows
  pub store_size : IsTrue (is_store_size (slice_index s 111) (slice_index s 109))
  -- the period is one that a session may name
  pub period : IsTrue (is_period (slice_index s 110))

-- The other words that hold the same in every kernel with these numbers.
pub record HasRootWords (s : List ℕ) : Type 0 where
  -- the address of the task table
  pub table : slice_index s 100 ≡ 120
  -- that of the first block
  pub first_block : slice_index s 103 ≡ 200
  -- that of the residents' data, or 0
  pub residents : (slice_index s 112 ≡ 0) ⊎ (slice_index s 112 ≡ 201)
  -- the words 113 to 119
  pub zeros : (i : ℕ) → i < 7 → slice_index s (113 + i) ≡ 0
  -- the highest number of a task
  pub highest : slice_index s 120 ≡ highest_id_of (slice_index s 111)
  -- the entries of the table after that number's
  pub unused : (i : ℕ) → i < 63 - highest_id_of (slice_index s 111)
      → slice_index s (121 + highest_id_of (slice_index s 111) + i) ≡ 0
  -- the end word
  pub end : slice_index s (length s - 2) ≡ 0
