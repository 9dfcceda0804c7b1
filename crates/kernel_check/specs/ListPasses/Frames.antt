-- The words of coroutines that follow from others.
use Rattle.std.specs.Prelude.{◌≡◌, ℕ, ◌+◌, ◌==◌, not, List, slice_index}
use Rattle.std.specs.List.{AllByRecursion}
use Rattle.kernel_lists.specs.LinkedList.Places.{has}
use Rattle.kernel_lists.specs.TaskBlock.Lists.{coroutines_in}
use Rattle.kernel_lists.specs.Coroutines.Active.{active_in}
use Rattle.kernel_lists.specs.Coroutines.HeldCoroutines.{parent_of}
use Rattle.kernel_model.specs.KernelRecord.Recovered.{lists_in, task_in}
use Rattle.kernel_model.specs.KernelRecord.ValidTasks.{AreValidCoroutines}

-- The words of the coroutine at c but for its parent.
pub record HasFrame (s : List ℕ) (c : ℕ) : Type 0 where
  -- its own address
  pub own : slice_index s (c + 5) ≡ c
  -- the P of its bottom frame
  pub frame_p : slice_index s (c + 7) ≡ 0
  -- the PC of that frame
  pub frame_pc : slice_index s (c + 8) ≡ 0
  -- the G of that frame, which is its function
  pub frame_g : slice_index s (c + 9) ≡ slice_index s (c + 3)

-- the coroutine at c has the parent that its place among the active coroutines of the task at t gives it
abbrev pub HasParent : List ℕ → ℕ → ℕ → Type 0
HasParent s t c = slice_index s (c + 1) ≡ parent_of t (active_in s t) c

-- the coroutine at c has no parent exactly where it is not active
abbrev pub TellsParent : List ℕ → ℕ → ℕ → Type 0
TellsParent s t c = (slice_index s (c + 1) == 0) ≡ not (has c (active_in s t))

-- The rules of the coroutines of the task at t hold, and each of them tells whether it is active.
pub record OwnsCoroutines (s : List ℕ) (t : ℕ) : Type 0 where
  -- the rules of its coroutines hold
  pub valid : AreValidCoroutines (lists_in s) (task_in s t)
  -- what each tells
  pub parents : AllByRecursion (TellsParent s t) (coroutines_in s t)
