-- What each pass of a check finds of a store with any words. Each speaks of the lists that are read off, `lists_in`.
use Rattle.std.specs.Prelude.{◌≡◌, ℕ, true, IsTrue, List, length, slice_index}
use Rattle.std.specs.List.{AllByRecursion}
use Rattle.kernel_lists.specs.LinkedList.Chain.{IsChain}
use Rattle.kernel_lists.specs.OwnedWords.Owned.{Holds}
use Rattle.kernel_lists.specs.GetvecChain.Tiling.{IsTiled}
use Rattle.kernel_lists.specs.PacketQueue.Queue.{link_of, queue_at}
use Rattle.kernel_model.specs.KernelRecord.Ranges.{IsVersion, is_period, is_store_size}
use Rattle.kernel_lists.specs.TaskBlock.ChainWords.{entries}
use Rattle.kernel_lists.specs.TaskBlock.HeldTasks.{address_with}
use Rattle.kernel_lists.specs.TaskBlock.Lists.{module_link, modules_in}
use Rattle.kernel_lists.specs.TaskBlock.RootWords.{first_module, first_task, root_address}
use Rattle.kernel_lists.specs.TaskBlock.TaskChain.{task_link, tasks_in}
use Rattle.kernel_lists.specs.declared.task_block.roots.RootField.TheVariants.{Running}
use Rattle.kernel_lists.specs.Coroutines.CoroutineExchanges.{words_of_coroutines}
use Rattle.kernel_model.specs.KernelRecord.KernelRanges.{IsModuleIn, has_residents}
use Rattle.kernel_model.specs.KernelRecord.Lists.{Lists, address_of_task}
use Rattle.kernel_model.specs.KernelRecord.Owned.{OwnsApart, clock_head, keyboard_head, output_head}
use Rattle.kernel_model.specs.KernelRecord.Recovered.{lists_in}
use Rattle.kernel_model.specs.KernelRecord.Residents.{pending_head, resident_words}
use Rattle.kernel_model.specs.KernelRecord.Root.{root_words}
use Rattle.kernel_model.specs.KernelRecord.Task.{Task, fault_words, state_words, task_address, task_id}
use Rattle.kernel_model.specs.KernelRecord.ValidBlocks.{AreValidModules, HasBlock, last_resident_word}
use Rattle.kernel_model.specs.KernelRecord.ValidQueues.{AreValidQueues}
use Rattle.kernel_model.specs.KernelRecord.ValidTasks.{AreValidCoroutines, AreValidTasks}
use Rattle.kernel_model.specs.KernelRecord.Versions.{highest_id_of}
use Rattle.store_claims.specs.ListClaims.ListEnds.{TaskListsEnd}

-- ---- the root, with its numbers and its fixed words, whoever runs

-- The numbers of the root, and its words that hold the same in every kernel with these numbers.
pub record IsValidRoot (s : List ℕ) : Type 0 where
  -- the store has as many words as word 109 says
  pub size : length s ≡ (lists_in s).size
  -- the version is 1 or 2
  pub version : IsVersion (lists_in s).version
  -- the size is one that the version allows
  pub store_size : IsTrue (is_store_size (lists_in s).version (lists_in s).size)
  -- the period is one that a session may name
  pub period : IsTrue (is_period (lists_in s).period)
  -- the words of the root, with the one of the running task as it is
  pub words : Holds s (root_words (lists_in s) (slice_index s (root_address Running)))

-- ---- the walks

-- All lists end.
pub record ListsEnd (s : List ℕ) : Type 0 where
  -- the chain of tasks
  pub chain : IsChain s task_link first_task (tasks_in s)
  -- the queue and the coroutines of each task
  pub tasks : AllByRecursion (TaskListsEnd s) (tasks_in s)
  -- the modules
  pub modules : IsChain s module_link first_module (modules_in s)
  -- whose lengths lie in the store
  pub lengths : AllByRecursion (IsModuleIn s) (modules_in s)
  -- the clock's queue
  pub clock : IsChain s link_of clock_head (queue_at s clock_head)
  -- the keyboard's
  pub keyboard : IsChain s link_of keyboard_head (queue_at s keyboard_head)
  -- the output's
  pub output : IsChain s link_of output_head (queue_at s output_head)
  -- the reads that wait for a line
  pub pending : has_residents s ≡ true → IsChain s link_of pending_head (queue_at s pending_head)

-- ---- the words of tasks

-- The words that follow from what is read off, but need not be so in every store: the bit of the queue, the addresses of stack
-- and globals, the zeros after the modules, and the fixed words of coroutines.
pub record HoldsTaskWords (s : List ℕ) (l : Lists) (t : Task) : Type 0 where
  -- the words 4 to 16 of the task block
  pub state : Holds s (state_words l.version t)
  -- those from 21 on
  pub fault : Holds s (fault_words l.version t)
  -- the words 17 to 20, and those of the coroutines
  pub coroutines : Holds s (words_of_coroutines t.address t.coroutines)

-- ---- all passes

-- What all passes find, in their order.
pub record Passes (s : List ℕ) : Type 0 where
  -- the root
  pub root : IsValidRoot s
  -- blocks follow one another up to the end word
  pub tiled : IsTiled s
  -- all lists end
  pub ends : ListsEnd s
  -- and no word is owned twice
  pub owns : OwnsApart (lists_in s)
  -- each module has its block
  pub modules : AreValidModules (lists_in s)
  -- the tasks
  pub tasks : AreValidTasks (lists_in s)
  -- the task table leads to each of them, and to nothing else
  pub table : Holds s (entries (address_with task_address task_id (lists_in s).tasks) 1 (highest_id_of (lists_in s).version))
  -- the word of the running task is 0, or the address of a task of the chain
  pub running : slice_index s (root_address Running) ≡ address_of_task (lists_in s) (lists_in s).running
  -- the coroutines of each task
  pub coroutines : AllByRecursion (AreValidCoroutines (lists_in s)) (lists_in s).tasks
  -- the words of each task
  pub heads : AllByRecursion (HoldsTaskWords s (lists_in s)) (lists_in s).tasks
  -- the residents have their block
  pub resident_block : (lists_in s).residents ≡ true → HasBlock (lists_in s).blocks 201 (last_resident_word (lists_in s))
  -- the queued packets
  pub queues : AreValidQueues (lists_in s)
  -- the words of residents that are no task's
  pub resident_words : Holds s (resident_words (lists_in s))
