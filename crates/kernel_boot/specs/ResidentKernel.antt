-- The lists of a kernel with which a session with residents begins: the residents wait, the console's key packet is at the
-- keyboard, and the shell has a packet of its own. The first block is theirs, and the rest of the store is one free block.
use Rattle.std.specs.Prelude.{ℕ, ◌+◌, ◌-◌, Bool, true, false, if◌then◌else◌, None, List, [], ◌∷◌}
use Rattle.kernel_lists.specs.Coroutines.CoroutineExchanges.{TaskCoroutines}
use Rattle.kernel_lists.specs.GetvecChain.Block.{free_block, used_block}
use Rattle.kernel_lists.specs.PacketQueue.QueueWords.{QueuedPacket}
use Rattle.kernel_model.specs.KernelRecord.Lists.{Lists}
use Rattle.kernel_model.specs.KernelRecord.Residents.{key_packet}
use Rattle.kernel_model.specs.KernelRecord.Task.{Task}
use Rattle.kernel_model.specs.KernelRecord.ValidTasks.{no_regs, waits}
use Rattle.kernel_calls.specs.CallAnswers.Tasks.{no_coroutines}

-- the size of the residents' block, which is larger where one of them reports faults
abbrev pub resident_block_size : Bool → ℕ
resident_block_size reporter = if reporter then 116 else 88

-- a packet of which nothing but the sender is said
abbrev pub packet_from : ℕ → ℕ → QueuedPacket
packet_from sender address = record { address = address; sender = sender; kind = 0; res1 = 0; last = 0 }

-- a resident that waits, with its number, its address, its priority and its packets
abbrev pub waiting_resident : ℕ → ℕ → ℕ → List QueuedPacket → Task
waiting_resident id address priority queue = record {
  id = id;
  address = address;
  priority = priority;
  flags = 0;
  maker = 0;
  modules = [];
  highest = 0;
  field = waits;
  held = false;
  fault = 0;
  fault_address = 0;
  saved = no_regs;
  queue = queue;
  coroutines = no_coroutines;
}

-- the console, task 3
abbrev pub console : Task
console = waiting_resident 3 224 6000 []

-- the file handler, task 4
abbrev pub files : Task
files = waiting_resident 4 247 5000 []

-- the reporter of faults, task 2
abbrev pub fault_reporter : Task
fault_reporter = waiting_resident 2 287 3000 []

-- the shell, task 1, to which its own packet comes
abbrev pub shell : Task
shell = waiting_resident 1 201 1000 (packet_from 1 279 ∷ [])

-- the residents in falling priority, with or without the reporter of faults
abbrev pub resident_tasks : Bool → List Task
resident_tasks reporter = console ∷ files ∷ (if reporter then fault_reporter ∷ shell ∷ [] else shell ∷ [])

-- the lists of a version, with this many steps from one tick to the next, in a store of this many words
abbrev pub resident_lists : ℕ → ℕ → ℕ → Bool → Lists
resident_lists version period size reporter =
    let block : ℕ = resident_block_size reporter in
    record {
      size = size;
      period = period;
      tick = 0;
      version = version;
      residents = true;
      running = 0;
      blocks = used_block 200 block ∷ free_block (200 + block) (size - 202 - block) ∷ [];
      modules = [];
      tasks = resident_tasks reporter;
      clock = [];
      keyboard = packet_from 3 key_packet ∷ [];
      output = [];
      pending = [];
      key = None;
      fault_packet_free = reporter;
    }
