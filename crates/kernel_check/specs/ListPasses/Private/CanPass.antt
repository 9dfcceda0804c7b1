-- What a pass may do with a task whose words were claimed.
use Rattle.std.specs.Prelude.{ℕ, ◌+◌, ◌≤◌, List, length}
use Rattle.std.specs.List.{AllByRecursion}
use Rattle.kernel_lists.specs.LinkedList.Walk.{CanWalk}
use Rattle.kernel_lists.specs.PacketQueue.Queue.{link_of, queue_at}
use Rattle.kernel_lists.specs.TaskBlock.Lists.{coroutine_link, coroutines_in, first_coroutine}
use Rattle.kernel_model.specs.KernelRecord.KernelRanges.{task_size_in}
use Rattle.kernel_model.specs.KernelRecord.Task.{queue_head}

-- Its lists can be walked, and lie in the store.
pub record CanPass (s : List ℕ) (t : ℕ) : Type 0 where
  -- the first words of its task block
  pub block : t + 23 ≤ length s
  -- all of them
  pub whole : t + task_size_in s t ≤ length s
  -- its queue
  pub queue : CanWalk s link_of (queue_head t)
  -- the words of its packets
  pub packets : AllByRecursion (λ p. p + 5 ≤ length s) (queue_at s (queue_head t))
  -- its coroutines
  pub coroutines : CanWalk s coroutine_link (first_coroutine t)
  -- their words
  pub bodies : AllByRecursion (λ c. c + 10 ≤ length s) (coroutines_in s t)
