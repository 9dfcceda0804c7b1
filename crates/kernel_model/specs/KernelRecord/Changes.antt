-- The changes of which calls are made: in the blocks, in one queue, in one task, in the chain of tasks.
use Rattle.std.specs.Prelude.{◌≡◌, ℕ, ◌<◌, ◌≤◌, ◌==◌, Bool, true, false, if◌then◌else◌, Option, Some, List, [], ◌∷◌, map, nat_lt}
use Rattle.std.specs.List.{AllByRecursion}
use Rattle.kernel_lists.specs.LinkedList.Places.{insert_after}
use Rattle.kernel_lists.specs.OwnedWords.Owned.{owners}
use Rattle.kernel_lists.specs.declared.getvec_chain.pieces.Block.{Block}
use Rattle.kernel_lists.specs.GetvecChain.Block.{has_data}
use Rattle.kernel_lists.specs.GetvecChain.Tiling.{used_at}
use Rattle.kernel_lists.specs.PacketQueue.QueueWords.{QueuedPacket}
use Rattle.kernel_lists.specs.HunkLoader.HeldModules.{LoadedModule}
use Rattle.kernel_lists.specs.Coroutines.CoroutineExchanges.{with_list}
use Rattle.kernel_lists.specs.Coroutines.HeldCoroutines.{Coroutine}
use Rattle.kernel_model.specs.KernelRecord.BlockUse.{coroutine_addresses, use_of_data}
use Rattle.kernel_model.specs.declared.kernel_record.uses.Use.TheVariants.{User}
use Rattle.kernel_model.specs.KernelRecord.Lists.{Lists, has_task, queued}
use Rattle.kernel_model.specs.KernelRecord.Owned.{owned}
use Rattle.kernel_model.specs.KernelRecord.Task.{Task}
use Rattle.kernel_model.specs.KernelRecord.ValidQueues.{NeverFall, Place}
use Rattle.kernel_model.specs.KernelRecord.ValidQueues.Place.{Clock, Keyboard, Output, Pending, Work}

-- ---- blocks

-- the lists with these blocks in the place of theirs
abbrev pub with_blocks : List Block → Lists → Lists
with_blocks bs l = record l { blocks = bs }

-- A used block of a user begins its data at v, and no queued packet lies in it. So it is none of those that the invariants 3, 4, 9,
-- 13 and 15 ask for.
pub record IsIdleBlock (l : Lists) (v : ℕ) : Type 0 where
  -- the block
  pub block : Block
  -- its data begin at v
  pub used : used_at v l.blocks ≡ Some block
  -- it is none of the kernel's own
  pub user : use_of_data l v ≡ User
  -- no packet that is queued begins in it
  pub empty : AllByRecursion (λ p. has_data block p.address ≡ false) (queued l)

-- nobody owns the words from a on, up to before b
abbrev pub AreUnowned : Lists → ℕ → ℕ → Type 0
AreUnowned l a b = (c : ℕ) → a ≤ c → c < b → owners c (owned l) ≡ 0

-- ---- queues

-- the task, with these packets on its work queue where it has this number
abbrev pub with_work : ℕ → List QueuedPacket → Task → Task
with_work id ps t = if t.id == id then record t { queue = ps } else t

-- the queue of a task, which is empty where there is no such task
abbrev pub work_of : ℕ → List Task → List QueuedPacket
work_of id [] = []
work_of id (t ∷ ts) = if t.id == id then t.queue else work_of id ts

-- the packets that are queued at a place
abbrev pub queue_of : Place → Lists → List QueuedPacket
queue_of (Work id) l = work_of id l.tasks
queue_of Clock l = l.clock
queue_of Keyboard l = l.keyboard
queue_of Output l = l.output
queue_of Pending l = l.pending

-- the lists with these packets at a place
abbrev pub with_queue : Place → List QueuedPacket → Lists → Lists
with_queue (Work id) ps l = record l { tasks = map (with_work id ps) l.tasks }
with_queue Clock ps l = record l { clock = ps }
with_queue Keyboard ps l = record l { keyboard = ps }
with_queue Output ps l = record l { output = ps }
with_queue Pending ps l = record l { pending = ps }

-- There is a queue at the place: the devices have theirs, a task its own, and the residents that of the console's reads
-- (invariant 20).
abbrev pub HasPlace : Lists → Place → Type 0
HasPlace l (Work id) = has_task id l.tasks ≡ true
HasPlace l Pending = l.residents ≡ true
HasPlace l _ = Unit {0}

-- the lists with this state of the key packet: its first result where it is on no queue, else nothing (21)
abbrev pub with_key : Option ℕ → Lists → Lists
with_key x l = record l { key = x }

-- the lists with this state of the fault packet: whether it is on no queue (22)
abbrev pub with_fault_packet : Bool → Lists → Lists
with_fault_packet f l = record l { fault_packet_free = f }

-- ---- modules

-- the lists with these modules in the place of theirs
abbrev pub with_modules : List LoadedModule → Lists → Lists
with_modules ms l = record l { modules = ms }

-- ---- one task

-- The task in the same place of the chain, with the same words, of which some may have changed. So the invariants 5 to 7 stay.
pub record SameTask (t u : Task) : Type 0 where
  -- its number
  pub id : u.id ≡ t.id
  -- its task block
  pub address : u.address ≡ t.address
  -- its priority, and so its place in the chain
  pub priority : u.priority ≡ t.priority
  -- its packets
  pub queue : u.queue ≡ t.queue
  -- which coroutines it has, in the same order
  pub coroutines : coroutine_addresses u ≡ coroutine_addresses t

-- the lists with these tasks in the place of theirs
abbrev pub with_tasks : List Task → Lists → Lists
with_tasks ts l = record l { tasks = ts }

-- the task with these coroutines
abbrev pub with_coroutines : List Coroutine → Task → Task
with_coroutines cs t = record t { coroutines = with_list cs t.coroutines }

-- the task, changed where it has this number
abbrev pub change_of : ℕ → (Task → Task) → Task → Task
change_of id change t = if t.id == id then change t else t

-- the lists with the task of this number changed
abbrev pub with_task : ℕ → (Task → Task) → Lists → Lists
with_task id change l = with_tasks (map (change_of id change) l.tasks) l

-- ---- the chain of tasks

-- the chain with a task at its place by priority
abbrev pub with_new_task : Task → Lists → Lists
with_new_task t l = record l { tasks = insert_after (λ u. nat_lt t.priority u.priority) t l.tasks }

-- No packet that is queued for a resident or a device, or that waits for a line, is from the task, so it may go (invariant 16).
pub record HasNoPacketsOut (l : Lists) (id : ℕ) : Type 0 where
  -- none is on the work queue of a resident
  pub tasks : AllByRecursion (λ t. t.id < 5 → AllByRecursion (λ p. (p.sender == id) ≡ false) t.queue) l.tasks
  -- none is at the clock
  pub clock : AllByRecursion (λ p. (p.sender == id) ≡ false) l.clock
  -- none is at the keyboard
  pub keyboard : AllByRecursion (λ p. (p.sender == id) ≡ false) l.keyboard
  -- none is at the output
  pub output : AllByRecursion (λ p. (p.sender == id) ≡ false) l.output
  -- and none waits for a line
  pub pending : AllByRecursion (λ p. (p.sender == id) ≡ false) l.pending

-- Due ticks never fall along the clock's queue (invariant 19); the other queues have no order of their own.
abbrev pub KeepsOrder : Place → List QueuedPacket → Type 0
KeepsOrder Clock ps = NeverFall ps
KeepsOrder _ ps = Unit {0}
