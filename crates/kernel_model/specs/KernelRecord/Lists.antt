-- The kernel's lists: all that the words which it owns depend on.
use Rattle.std.specs.Prelude.{ℕ, ◌==◌, Bool, Option, List, ◌++◌}
use Rattle.std.specs.List.{flat_map, list_any}
use Rattle.kernel_lists.specs.declared.getvec_chain.pieces.Block.{Block}
use Rattle.kernel_lists.specs.HunkLoader.HeldModules.{LoadedModule}
use Rattle.kernel_lists.specs.PacketQueue.QueueWords.{QueuedPacket}
use Rattle.kernel_lists.specs.TaskBlock.HeldTasks.{address_with}
use Rattle.kernel_model.specs.KernelRecord.Task.{Task, task_address, task_id}

-- The kernel's lists and numbers.
pub record Lists : Type 0 where
  -- the words of the store, an even number; the end word is word size - 2
  pub size : ℕ
  -- the steps from one tick to the next
  pub period : ℕ
  -- the ticks so far
  pub tick : ℕ
  -- the version of the store's layout, 1 or 2
  pub version : ℕ
  -- whether there are residents: tasks 1, 3 and 4
  pub residents : Bool
  -- the number of the task that runs, 0 where nobody runs
  pub running : ℕ
  -- the blocks that the words from 200 up to the end word are cut into, in rising order
  pub blocks : List Block
  -- the modules in the store, the newest first
  pub modules : List LoadedModule
  -- all tasks, residents and guests, in falling priority
  pub tasks : List Task
  -- the packets that wait at the clock, device -1: each packet's last word is the tick at which it is due
  pub clock : List QueuedPacket
  -- the packets that wait for a byte from the keyboard, device -2, the oldest first
  pub keyboard : List QueuedPacket
  -- the packets whose bytes are to be printed, device -3, the oldest first
  pub output : List QueuedPacket
  -- the reads that the console has taken and that wait for a line, queue 103, the oldest first
  pub pending : List QueuedPacket
  -- the first result of the console's key packet while that is on no queue, and none while it is on one
  pub key : Option ℕ
  -- whether there is a fault packet that is on no queue
  pub fault_packet_free : Bool

-- whether there is a task with the number
abbrev pub has_task : ℕ → List Task → Bool
has_task id ts = list_any (λ t. t.id == id) ts

-- the address of the task with the number, or 0
abbrev pub address_of_task : Lists → ℕ → ℕ
address_of_task l id = address_with task_address task_id l.tasks id

-- the packets of all queues
abbrev pub queued : Lists → List QueuedPacket
queued l = flat_map (λ t. t.queue) l.tasks ++ (l.clock ++ (l.keyboard ++ (l.output ++ l.pending)))

-- whether the packet at the address is on a queue
abbrev pub is_queued : ℕ → Lists → Bool
is_queued p l = list_any (λ q. q.address == p) (queued l)
