-- The words that the kernel owns, each with what is there.
use Rattle.std.specs.Prelude.{ℕ, ◌<◌, ◌++◌}
use Rattle.kernel_lists.specs.OwnedWords.Owned.{AreApart, Pairs, owners}
use Rattle.kernel_lists.specs.GetvecChain.BlockWords.{blocks_words}
use Rattle.kernel_lists.specs.HunkLoader.ModuleExchanges.{modules_words}
use Rattle.kernel_lists.specs.PacketQueue.QueueWords.{queue_words}
use Rattle.kernel_lists.specs.TaskBlock.ChainWords.{listed_words}
use Rattle.kernel_lists.specs.TaskBlock.RootWords.{root_address}
use Rattle.kernel_lists.specs.declared.task_block.roots.RootField.TheVariants.{ClockQueue, KeyQueue, OutputQueue}
use Rattle.kernel_model.specs.KernelRecord.Lists.{Lists, address_of_task}
use Rattle.kernel_model.specs.KernelRecord.Residents.{resident_words}
use Rattle.kernel_model.specs.KernelRecord.Root.{root_words}
use Rattle.kernel_model.specs.KernelRecord.Task.{task_address, task_id, task_words}
use Rattle.kernel_model.specs.KernelRecord.Versions.{highest_id_of}

-- the word that leads to the packets at the clock, device -1
abbrev pub clock_head : ℕ
clock_head = root_address ClockQueue

-- the word that leads to the packets at the keyboard, device -2
abbrev pub keyboard_head : ℕ
keyboard_head = root_address KeyQueue

-- the word that leads to the packets at the output, device -3
abbrev pub output_head : ℕ
output_head = root_address OutputQueue

-- the table, the head of the chain, and each task's words with its queue and its coroutines
abbrev pub tasks_words : Lists → Pairs
tasks_words l = listed_words task_address task_id (task_words l.version) (highest_id_of l.version) l.tasks

-- the three queues of devices
abbrev pub device_words : Lists → Pairs
device_words l = queue_words clock_head l.clock ++ (queue_words keyboard_head l.keyboard ++ queue_words output_head l.output)

-- All owned words: the root and the end word, the blocks, the tasks, the modules, the queues of devices, and what is the
-- residents'.
unfoldable pub owned : Lists → Pairs
owned l =
    root_words l (address_of_task l l.running)
    ++ (blocks_words l.blocks ++ (tasks_words l ++ (modules_words l.modules ++ (device_words l ++ resident_words l))))

-- Invariants 24 and 25: no word is owned twice, and each is one of the store.
pub record OwnsApart (l : Lists) : Type 0 where
  -- invariant 24
  pub apart : AreApart (owned l)
  -- invariant 25
  pub inside : (a : ℕ) → 0 < owners a (owned l) → a < l.size
