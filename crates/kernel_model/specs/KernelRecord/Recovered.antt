-- The lists, read off a store.
use Rattle.std.specs.Prelude.{ℕ, ◌+◌, ◌==◌, ◌&&◌, Bool, not, if◌then◌else◌, Option, Some, None, List, [], ◌∷◌, filter, map, slice_index, slice_range}
use Rattle.std.specs.List.{list_any}
use Rattle.kernel_lists.specs.GetvecChain.Tiling.{blocks_in}
use Rattle.kernel_lists.specs.HunkLoader.HeldModules.{LoadedModule}
use Rattle.kernel_lists.specs.HunkLoader.ModuleHunks.{lengths_in}
use Rattle.kernel_lists.specs.PacketQueue.Queue.{no_queue, queue_at}
use Rattle.kernel_lists.specs.PacketQueue.QueueWords.{QueuedPacket}
use Rattle.kernel_lists.specs.TaskBlock.Lists.{coroutines_in, modules_in}
use Rattle.kernel_lists.specs.TaskBlock.RootWords.{root_address}
use Rattle.kernel_lists.specs.TaskBlock.TaskChain.{id_in, tasks_in}
use Rattle.kernel_lists.specs.TaskBlock.TaskWords.{word_index}
use Rattle.kernel_lists.specs.TaskBlock.Versions.{head_words}
use Rattle.kernel_lists.specs.declared.task_block.fields.TcbField.{TcbField}
use Rattle.kernel_lists.specs.declared.task_block.fields.TcbField.TheVariants.{Extra1, Extra2, Flags, Maker, Module, Pri, RootP, RootPc, SavedA, SavedB, SavedC, SavedG, SavedP, SavedPc, StackTop, State}
use Rattle.kernel_lists.specs.declared.task_block.roots.RootField.TheVariants.{Period, Residents, Running, Size, Tick, Version}
use Rattle.kernel_lists.specs.Coroutines.Active.{active_in}
use Rattle.kernel_lists.specs.Coroutines.CoroutineExchanges.{TaskCoroutines}
use Rattle.kernel_lists.specs.Coroutines.HeldCoroutines.{Coroutine}
use Rattle.kernel_model.specs.KernelRecord.Lists.{Lists}
use Rattle.kernel_model.specs.KernelRecord.Owned.{clock_head, keyboard_head, output_head}
use Rattle.kernel_model.specs.KernelRecord.Residents.{fault_packet, key_packet, pending_head}
use Rattle.kernel_model.specs.KernelRecord.Task.{Task, field_of_state, is_guest_id, is_held_state, queue_head}
use Rattle.kernel_model.specs.KernelRecord.KernelRanges.{has_residents}

-- a word of the root, by its address
abbrev pub root_in : List ℕ → ℕ → ℕ
root_in s a = slice_index s a

-- a word of the task block at t, by its name
abbrev pub field_in : List ℕ → ℕ → TcbField → ℕ
field_in s t f = slice_index s (t + word_index f)

-- the packet at p, as its words say
abbrev pub packet_in : List ℕ → ℕ → QueuedPacket
packet_in s p = record {
  address = p;
  sender = slice_index s (p + 1);
  kind = slice_index s (p + 2);
  res1 = slice_index s (p + 3);
  last = slice_index s (p + 4);
}

-- the packets that are queued at a head
abbrev pub packets_at : List ℕ → ℕ → List QueuedPacket
packets_at s head = map (packet_in s) (queue_at s head)

-- the coroutine at c, as its words say
abbrev pub coroutine_in : List ℕ → ℕ → Coroutine
coroutine_in s c = record {
  address = c;
  function = slice_index s (c + 3);
  highest = slice_index s (c + 4);
  saved_p = slice_index s c;
  saved_pc = slice_index s (c + 6);
}

-- the coroutines of the task at t, those that are active, and what its root has saved
abbrev pub coroutines_of : List ℕ → ℕ → TaskCoroutines
coroutines_of s t = record {
  list = map (coroutine_in s) (coroutines_in s t);
  active = active_in s t;
  root_p = field_in s t RootP;
  root_pc = field_in s t RootPc;
}

-- the words that have a guest's modules after the first: those after word 22 of its task block
abbrev pub further_words : List ℕ → ℕ → List ℕ
further_words s t = if is_guest_id (id_in s t) then slice_range s (t + 23) (t + head_words s) else []

-- the modules of a task are the words that are not 0
abbrev pub modules_of : List ℕ → ℕ → List ℕ
modules_of s t = filter (λ m. not (m == 0)) (field_in s t Module ∷ further_words s t)

-- The task at t, as its words say. Of its state the lowest bit says nothing of its own, the next one that the task is held, and
-- the rest is its field.
abbrev pub task_in : List ℕ → ℕ → Task
task_in s t = record {
  id = id_in s t;
  address = t;
  priority = field_in s t Pri;
  flags = field_in s t Flags;
  maker = field_in s t Maker;
  modules = modules_of s t;
  highest = field_in s t StackTop;
  field = field_of_state (field_in s t State);
  held = is_held_state (field_in s t State);
  fault = field_in s t Extra1;
  fault_address = field_in s t Extra2;
  saved = record {
    a = field_in s t SavedA;
    b = field_in s t SavedB;
    c = field_in s t SavedC;
    p = field_in s t SavedP;
    g = field_in s t SavedG;
    pc = field_in s t SavedPc;
  };
  queue = packets_at s (queue_head t);
  coroutines = coroutines_of s t;
}

-- the module at m, with the lengths of its hunks
abbrev pub module_in : List ℕ → ℕ → LoadedModule
module_in s m = record { address = m; lengths = lengths_in s m }

-- the number of the task at an address, 0 for none
abbrev pub number_of : List ℕ → ℕ → ℕ
number_of s t = if t == 0 then 0 else id_in s t

-- whether a packet of the residents is there and on no queue
abbrev pub is_free : List ℕ → ℕ → Bool
is_free s p = has_residents s && (slice_index s p == no_queue)

-- whether there is a task with the number
abbrev pub has_task_in : List ℕ → ℕ → Bool
has_task_in s id = list_any (λ t. id_in s t == id) (tasks_in s)

-- the reads that wait for a line, where there are residents
abbrev pub pending_in : List ℕ → List QueuedPacket
pending_in s = if has_residents s then packets_at s pending_head else []

-- the first result of the key packet, where that is on no queue
abbrev pub key_in : List ℕ → Option ℕ
key_in s = if is_free s key_packet then Some (slice_index s (key_packet + 3)) else None

-- all lists and numbers of the kernel, as the store's words say
unfoldable pub lists_in : List ℕ → Lists
lists_in s = record {
  size = root_in s (root_address Size);
  period = root_in s (root_address Period);
  tick = root_in s (root_address Tick);
  version = root_in s (root_address Version);
  residents = has_residents s;
  running = number_of s (root_in s (root_address Running));
  blocks = blocks_in s;
  modules = map (module_in s) (modules_in s);
  tasks = map (task_in s) (tasks_in s);
  clock = packets_at s clock_head;
  keyboard = packets_at s keyboard_head;
  output = packets_at s output_head;
  pending = pending_in s;
  key = key_in s;
  fault_packet_free = has_task_in s 2 && is_free s fault_packet;
}
