-- The words of all lists of a store, in the order in which they are claimed.
use Rattle.std.specs.Prelude.{◌≡◌, ℕ, ◌+◌, ◌<◌, ◌≤◌, ◌==◌, ◌&&◌, Bool, true, if◌then◌else◌, List, [], ◌++◌, length, slice_index}
use Rattle.std.specs.List.{AllByRecursion, flat_map, range_with_len}
use Rattle.word_store.specs.Count.{IsApart, times, words_of}
use Rattle.kernel_lists.specs.HunkLoader.ModuleHunks.{hunk_count}
use Rattle.kernel_lists.specs.PacketQueue.Queue.{no_queue, packet_size, queue_at}
use Rattle.kernel_lists.specs.TaskBlock.Lists.{coroutines_in, modules_in}
use Rattle.kernel_lists.specs.TaskBlock.TaskChain.{tasks_in}
use Rattle.kernel_lists.specs.Coroutines.CoroutineWords.{coroutine_size}
use Rattle.kernel_model.specs.KernelRecord.KernelRanges.{has_reporter, has_residents, task_size_in}
use Rattle.kernel_model.specs.KernelRecord.Owned.{clock_head, keyboard_head, output_head}
use Rattle.kernel_model.specs.KernelRecord.Residents.{fault_packet, key_packet, pending_head}
use Rattle.kernel_model.specs.KernelRecord.Task.{queue_head}
use Rattle.store_claims.specs.WordClaims.Marks.{is_open}

-- These words may be claimed together.
pub record Claimable (marks : List Bool) (ws : List ℕ) : Type 0 where
  -- each of them is open
  pub are_open : (a : ℕ) → 0 < times a ws → is_open marks a ≡ true
  -- and none is there twice
  pub apart : IsApart ws

-- A walk finds what it looks for, and the words that it meets may be claimed.
pub record Can (Ends : Type 0) (marks : List Bool) (ws : List ℕ) : Type 0 where
  -- what it looks for: that links end
  pub ends : Ends
  -- the words
  pub words : Claimable marks ws

-- the task blocks lie in the store
abbrev pub AreBlocks : List ℕ → List ℕ → Type 0
AreBlocks s ts = AllByRecursion (λ t. t + 23 ≤ length s) ts

-- ---- one list

-- the addresses of the five words of each packet from a head on
abbrev pub queue_words_at : List ℕ → ℕ → List ℕ
queue_words_at s head = words_of packet_size (queue_at s head)

-- the addresses of the ten words of each coroutine of the task at t
abbrev pub coroutine_words_at : List ℕ → ℕ → List ℕ
coroutine_words_at s t = words_of coroutine_size (coroutines_in s t)

-- the packets and the coroutines of the task at t
abbrev pub task_list_words : List ℕ → ℕ → List ℕ
task_list_words s t = queue_words_at s (queue_head t) ++ coroutine_words_at s t

-- the addresses of the words of all task blocks
abbrev pub chain_words : List ℕ → List ℕ
chain_words s = words_of (task_size_in s) (tasks_in s)

-- a module has its link, the number of its hunks, and their lengths
abbrev pub module_size_in : List ℕ → ℕ → ℕ
module_size_in s m = 2 + hunk_count s m

-- the addresses of the words of all modules, but for those of their hunks
abbrev pub module_words_in : List ℕ → List ℕ
module_words_in s = words_of (module_size_in s) (modules_in s)

-- a packet of the residents that is there and on no queue
abbrev pub free_packet : Bool → List ℕ → ℕ → List ℕ
free_packet there s p = if there && (slice_index s p == no_queue) then range_with_len p 5 else []

-- the words of the fault packet, where it is there and on no queue
abbrev pub fault_words_in : List ℕ → List ℕ
fault_words_in s = free_packet (has_reporter s) s fault_packet

-- ---- the words that are left to claim, from the last list to the first one

-- the addresses that are left to claim: the arguments of the key packet, and the fault packet
abbrev pub argument_rest : List ℕ → List ℕ
argument_rest s = range_with_len 276 3 ++ fault_words_in s

-- the addresses from the key packet on
abbrev pub packet_rest : List ℕ → List ℕ
packet_rest s = free_packet true s key_packet ++ argument_rest s

-- the addresses from the reads that wait for a line on
abbrev pub console_rest : List ℕ → List ℕ
console_rest s = queue_words_at s pending_head ++ packet_rest s

-- the addresses from the head of these reads on: all words of residents but for their task blocks
abbrev pub console_words : List ℕ → List ℕ
console_words s = range_with_len pending_head 1 ++ console_rest s

-- the same, where there are residents
abbrev pub resident_words_in : List ℕ → List ℕ
resident_words_in s = if has_residents s then console_words s else []

-- the addresses from the packets of the output on
abbrev pub output_rest : List ℕ → List ℕ
output_rest s = queue_words_at s output_head ++ resident_words_in s

-- the addresses from the packets of the keyboard on
abbrev pub keyboard_rest : List ℕ → List ℕ
keyboard_rest s = queue_words_at s keyboard_head ++ output_rest s

-- the addresses from the packets of the clock on
abbrev pub device_rest : List ℕ → List ℕ
device_rest s = queue_words_at s clock_head ++ keyboard_rest s

-- the addresses from the lists of each task on
abbrev pub task_rest : List ℕ → List ℕ
task_rest s = flat_map (task_list_words s) (tasks_in s) ++ device_rest s

-- the addresses from the modules on
abbrev pub module_rest : List ℕ → List ℕ
module_rest s = module_words_in s ++ task_rest s

-- the addresses of all these words, from the chain of tasks on
abbrev pub all_words : List ℕ → List ℕ
all_words s = chain_words s ++ module_rest s
