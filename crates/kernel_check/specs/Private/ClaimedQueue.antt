-- A queue whose words were claimed.
use Rattle.std.specs.Prelude.{ℕ, List}
use Rattle.std.specs.List.{AllByRecursion}
use Rattle.kernel_lists.specs.PacketQueue.Queue.{HasQueue, queue_at}
use Rattle.kernel_model.specs.KernelRecord.Recovered.{lists_in}
use Rattle.kernel_model.specs.KernelRecord.ValidBlocks.{AreData}

-- There is a queue at a head, and the words of each packet are data of one used block.
pub record IsClaimedQueue (s : List ℕ) (head : ℕ) : Type 0 where
  -- the queue
  pub queue : HasQueue s head
  -- its packets
  pub lodged : AllByRecursion (λ p. AreData (lists_in s).blocks p 5) (queue_at s head)
