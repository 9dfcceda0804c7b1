-- The lists as the list crates see them in a store that holds the kernel's words.
use Rattle.std.specs.Prelude.{◌≡◌, ℕ, true, List, map}
use Rattle.std.specs.List.{AllByRecursion}
use Rattle.kernel_lists.specs.GetvecChain.Tiling.{IsTiled, blocks_in}
use Rattle.kernel_lists.specs.HunkLoader.HeldModules.{HeldModules}
use Rattle.kernel_lists.specs.PacketQueue.QueueWords.{HeldQueue}
use Rattle.kernel_lists.specs.TaskBlock.HeldTasks.{HasTheseTasks, HeldTasks}
use Rattle.kernel_lists.specs.Coroutines.CoroutineExchanges.{HoldsCoroutines}
use Rattle.kernel_model.specs.KernelRecord.Lists.{Lists}
use Rattle.kernel_model.specs.KernelRecord.Owned.{clock_head, keyboard_head, output_head}
use Rattle.kernel_model.specs.KernelRecord.Residents.{pending_head}
use Rattle.kernel_model.specs.KernelRecord.Task.{queue_head, task_address, task_id, task_words}

-- Each list is in the store, and is the kernel's.
pub record ReadsLists (s : List ℕ) (l : Lists) : Type 0 where
  -- the blocks follow one another up to the end word
  pub tiled : IsTiled s
  -- they are the kernel's
  pub blocks : blocks_in s ≡ l.blocks
  -- the store holds the words of its tasks
  pub held_tasks : HeldTasks task_address task_id (task_words l.version) s l.tasks
  -- the chain and the table lead to their task blocks, in this order
  pub tasks : HasTheseTasks s (map task_address l.tasks)
  -- the modules
  pub modules : HeldModules s l.modules
  -- the work queue of each task
  pub work : AllByRecursion (λ t. HeldQueue s (queue_head t.address) t.queue) l.tasks
  -- the coroutines of each task
  pub coroutines : AllByRecursion (λ t. HoldsCoroutines s t.address t.coroutines) l.tasks
  -- the clock's queue
  pub clock : HeldQueue s clock_head l.clock
  -- the keyboard's
  pub keyboard : HeldQueue s keyboard_head l.keyboard
  -- the output's
  pub output : HeldQueue s output_head l.output
  -- the reads that wait for a line, where there are residents
  pub pending : l.residents ≡ true → HeldQueue s pending_head l.pending
