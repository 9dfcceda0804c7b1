-- The kernel's words in a store, as ranges: those of its lists, and those of the packets that are queued.
use Rattle.std.specs.Prelude.{◌≡◌, ℕ, ◌+◌, ◌-◌, ◌^◌, ◌<◌, ◌≤◌, ◌==◌, ◌&&◌, Bool, true, false, not, if◌then◌else◌, nat_lt, List, [], ◌∷◌, ◌++◌, length, map, slice_index}
use Rattle.std.specs.List.{AllByRecursion, flat_map, list_any}
use Rattle.kernel_lists.specs.LinkedList.Walk.{CanWalk}
use Rattle.kernel_lists.specs.declared.getvec_chain.pieces.Block.{Block}
use Rattle.kernel_lists.specs.GetvecChain.Tiling.{IsTiled, blocks_in}
use Rattle.kernel_lists.specs.HunkLoader.ModuleHunks.{hunk_count}
use Rattle.kernel_lists.specs.PacketQueue.Queue.{HasQueue, queue_at}
use Rattle.kernel_lists.specs.PacketQueue.QueueWords.{QueuedPacket}
use Rattle.kernel_lists.specs.TaskBlock.Lists.{coroutine_link, coroutines_in, first_coroutine, module_link, modules_in}
use Rattle.kernel_lists.specs.TaskBlock.RootWords.{first_module, first_task, root_address}
use Rattle.kernel_lists.specs.TaskBlock.TaskChain.{id_in, task_link, tasks_in}
use Rattle.kernel_lists.specs.TaskBlock.Versions.{head_words}
use Rattle.kernel_lists.specs.declared.task_block.roots.RootField.TheVariants.{Residents}
use Rattle.kernel_model.specs.KernelRecord.Owned.{clock_head, keyboard_head, output_head}
use Rattle.kernel_model.specs.KernelRecord.Residents.{fault_packet, pending_head}
use Rattle.kernel_model.specs.KernelRecord.Task.{is_guest_id, queue_head}

-- a range: so many words from an address on
pub record Words : Type 0 where
  -- the address of the first
  pub first : ℕ
  -- how many words
  pub count : ℕ

-- the range of so many words from an address on
abbrev pub words : ℕ → ℕ → Words
words first count = record { first = first; count = count }

-- whether one of the words from a on, up to before b, is one of the range
abbrev pub meets : ℕ → ℕ → Words → Bool
meets a b w = nat_lt a b && nat_lt 0 w.count && nat_lt w.first b && nat_lt a (w.first + w.count)

-- none of the addresses from a on, up to before b, is marked; a store has fewer than 2 ^ 32 words
abbrev pub AreClear : (ℕ → Bool) → ℕ → ℕ → Type 0
AreClear marked a b = (c : ℕ) → a ≤ c → c < b → c < 2 ^ 32 → marked c ≡ false

-- ---- packets

-- the words 0 to 4 of each packet that is queued at a head
abbrev pub packets_at : List ℕ → ℕ → List Words
packets_at s head = map (λ p. words p 5) (queue_at s head)

-- whether the store has a block of residents: the root has its address, or 0
abbrev pub has_residents : List ℕ → Bool
has_residents s = not (slice_index s (root_address Residents) == 0)

-- those of the reads that wait for a line
abbrev pub pending_packets : List ℕ → List Words
pending_packets s = if has_residents s then packets_at s pending_head else []

-- those of the packets at the clock, the keyboard and the output, and of the reads that wait for a line
abbrev pub device_packets : List ℕ → List Words
device_packets s = packets_at s clock_head ++ (packets_at s keyboard_head ++ (packets_at s output_head ++ pending_packets s))

-- those of the packets on the tasks' work queues
abbrev pub work_packets : List ℕ → List Words
work_packets s = flat_map (λ t. packets_at s (queue_head t)) (tasks_in s)

-- the words 0 to 4 of each queued packet
unfoldable pub packet_ranges : List ℕ → List Words
packet_ranges s = work_packets s ++ device_packets s

-- the words of these packets
abbrev pub packet_words_of : List QueuedPacket → List Words
packet_words_of ps = map (λ p. words p.address 5) ps

-- ---- the words of all else

-- the root node with the task table, words 100 to 183, and the end word
abbrev pub root_ranges : List ℕ → List Words
root_ranges s = words 100 84 ∷ words (length s - 2) 1 ∷ []

-- the size word of a block
abbrev pub block_range : Block → Words
block_range b = words b.start 1

-- a resident's task block has 23 words, and a guest's as many as the version says
abbrev pub task_size_in : List ℕ → ℕ → ℕ
task_size_in s t = if is_guest_id (id_in s t) then head_words s else 23

-- the words 0 to 9 of the coroutines of the task at t
abbrev pub coroutine_ranges : List ℕ → ℕ → List Words
coroutine_ranges s t = map (λ c. words c 10) (coroutines_in s t)

-- its task block, and those of its coroutines
abbrev pub task_ranges : List ℕ → ℕ → List Words
task_ranges s t = words t (task_size_in s t) ∷ coroutine_ranges s t

-- the link and the number of hunks of a module, and the lengths of its hunks
abbrev pub module_ranges : List ℕ → ℕ → List Words
module_ranges s m = words m 2 ∷ words (m + 2) (hunk_count s m) ∷ []

-- whether task 2 is there, which reports faults
abbrev pub has_reporter : List ℕ → Bool
has_reporter s = list_any (λ t. id_in s t == 2) (tasks_in s)

-- where there are residents: the head of the reads that wait for a line, and the eight words of the key packet
abbrev pub console_ranges : List ℕ → List Words
console_ranges s = if has_residents s then words pending_head 9 ∷ [] else []

-- the five words of the fault packet, where there is a task that reports faults
abbrev pub fault_ranges : List ℕ → List Words
fault_ranges s = if has_reporter s then words fault_packet 5 ∷ [] else []

-- the kernel's words but for those of queued packets
unfoldable pub list_ranges : List ℕ → List Words
list_ranges s =
    root_ranges s
    ++ (map block_range (blocks_in s) ++ (flat_map (task_ranges s) (tasks_in s) ++ (flat_map (module_ranges s) (modules_in s) ++ (console_ranges s ++ fault_ranges s))))

-- all of the kernel's words
abbrev pub kernel_ranges : List ℕ → List Words
kernel_ranges s = list_ranges s ++ packet_ranges s

-- whether the word at the address is the kernel's
abbrev pub is_kernel_word : List ℕ → ℕ → Bool
is_kernel_word s a = list_any (meets a (a + 1)) (kernel_ranges s)

-- ---- what a walk needs

-- the lists of a task lead to their ends
pub record CanWalkTask (s : List ℕ) (t : ℕ) : Type 0 where
  -- the word that leads to its coroutines is in the store
  pub inside : first_coroutine t < length s
  -- its work queue
  pub queue : HasQueue s (queue_head t)
  -- its coroutines
  pub coroutines : CanWalk s coroutine_link (first_coroutine t)

-- the words of a module before its hunks lie in the store
abbrev pub IsModuleIn : List ℕ → ℕ → Type 0
IsModuleIn s m = m + 2 + hunk_count s m ≤ length s

-- all lists of the store do
pub record CanWalkLists (s : List ℕ) : Type 0 where
  -- the blocks follow one another up to the end word
  pub tiled : IsTiled s
  -- the modules' own words are in the store
  pub module_words : AllByRecursion (IsModuleIn s) (modules_in s)
  -- the chain of tasks
  pub chain : CanWalk s task_link first_task
  -- the list of modules
  pub modules : CanWalk s module_link first_module
  -- the lists of each task
  pub tasks : AllByRecursion (CanWalkTask s) (tasks_in s)
  -- the clock's queue
  pub clock : HasQueue s clock_head
  -- the keyboard's
  pub keyboard : HasQueue s keyboard_head
  -- the output's
  pub output : HasQueue s output_head
  -- that of the reads that wait for a line, where there are residents
  pub pending : has_residents s ≡ true → HasQueue s pending_head
