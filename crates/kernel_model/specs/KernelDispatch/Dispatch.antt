-- Dispatch: the first ready task runs.
use Rattle.std.specs.Prelude.{◌≡◌, ℕ, pos, ◌+◌, ◌<◌, ◌==◌, ◌&&◌, ◌||◌, Bool, false, if◌then◌else◌, Option, Some, None, List, [], ◌∷◌, ◌++◌, drop, find, map, slice_index, take}
use Rattle.std.specs.Option.{option_map}
use Rattle.word_store.specs.Arithmetic.{signed}
use Rattle.word_store.specs.declared.registers.Regs.{Regs}
use Rattle.kernel_lists.specs.OwnedWords.LinkedWords.{first_of}
use Rattle.kernel_lists.specs.OwnedWords.Owned.{Pairs, written}
use Rattle.kernel_lists.specs.PacketQueue.Queue.{no_queue}
use Rattle.kernel_lists.specs.PacketQueue.QueueWords.{QueuedPacket, address_of}
use Rattle.kernel_lists.specs.declared.packet_queue.events.KernelEvent.{KernelEvent}
use Rattle.kernel_lists.specs.declared.packet_queue.events.KernelEvent.TheVariants.{Runs, Taken}
use Rattle.kernel_model.specs.KernelRecord.Between.{AreValidRegisters, is_ready}
use Rattle.kernel_model.specs.KernelRecord.Changes.{with_task}
use Rattle.kernel_model.specs.KernelRecord.Lists.{Lists}
use Rattle.kernel_model.specs.KernelRecord.Running.{RunsAlone}
use Rattle.kernel_model.specs.KernelRecord.Task.{Task, globals_of, is_guest_id, stack_of, task_address}
use Rattle.kernel_model.specs.KernelRecord.ValidTasks.{dead, interrupted, no_regs, runs, waits}

-- What a dispatch leaves: the parts of a KernelChange, and the registers.
pub record DispatchChange : Type 0 where
  -- the lists
  pub lists : Lists
  -- the plain words that it wrote: the link of a packet that was taken
  pub plain : Pairs
  -- its events, in their order
  pub events : List KernelEvent
  -- the registers of the task that runs now
  pub regs : Regs

-- ---- the task that ran

-- a task that stops running: its registers are saved, and where it ran it is interrupted
abbrev pub suspended : Regs → Task → Task
suspended r t = record t { saved = r; field = if t.field == runs then interrupted else t.field }

-- the lists once the running task is suspended with its registers
abbrev pub with_suspended : Regs → Lists → Lists
with_suspended r l = with_task l.running (suspended r) l

-- ---- the task that goes on

-- A guest that waits, or is dead, takes its first packet; one that was interrupted takes none. A resident takes its packet itself.
abbrev pub takes_packet : Task → Bool
takes_packet t = is_guest_id t.id && ((t.field == waits) || (t.field == dead))

-- the packets that it takes: one or none
abbrev pub packets_taken : Task → List QueuedPacket
packets_taken t = if takes_packet t then take 1 t.queue else []

-- the packets that stay on its queue
abbrev pub packets_left : Task → List QueuedPacket
packets_left t = if takes_packet t then drop 1 t.queue else t.queue

-- the task once it has taken its packet
abbrev pub with_packet_taken : Task → Task
with_packet_taken t = record t { queue = packets_left t }

-- the task once it runs, with its queue as it was
abbrev pub started : Task → Task
started t = record t { field = runs }

-- the task once it has taken its packet and runs
abbrev pub resumed : Task → Task
resumed t = record t { field = runs; queue = packets_left t }

-- a packet that was taken is on no queue
abbrev pub unlinked_words : List QueuedPacket → Pairs
unlinked_words ps = map (λ p. (p.address, no_queue)) ps

-- a dead task begins with its packet at the word that its globals have first, read once the packet was taken
abbrev pub entry_regs : ℕ → List ℕ → Task → Regs
entry_regs version words t = record {
  a = first_of address_of t.queue 0;
  b = 0;
  c = 0;
  p = stack_of version t;
  g = globals_of version t;
  pc = slice_index words (globals_of version t + 1);
}

-- a guest gets its saved registers, with the packet in A where it waited for one; a resident has none
abbrev pub guest_regs : ℕ → List ℕ → Task → Regs
guest_regs version words t =
    if t.field == dead then entry_regs version words t else
    if t.field == waits then record t.saved { a = first_of address_of t.queue 0; b = 0 } else
    t.saved

-- the registers with which a task goes on: those of a guest, or all 0 for a resident
abbrev pub resumed_regs : ℕ → List ℕ → Task → Regs
resumed_regs version words t = if is_guest_id t.id then guest_regs version words t else no_regs

-- the event that a task took a packet, and from whom
abbrev pub taken_event : Task → QueuedPacket → KernelEvent
taken_event t p = Taken (pos t.id) p.address (signed p.sender)

-- ---- dispatch

-- the running task goes on without a change: it still runs, and is the first ready one
abbrev pub goes_on : Lists → Option Task → Bool
goes_on l None = false
goes_on l (Some t) = (t.id == l.running) && (t.field == runs)

-- nobody runs any more, which is an event where somebody did
abbrev pub with_nobody : Lists → DispatchChange
with_nobody l = record {
  lists = record l { running = 0 };
  plain = [];
  regs = no_regs;
  events = if l.running == 0 then [] else Runs 0 ∷ [];
}

-- this task takes its packet, where it takes one, and runs
abbrev pub with_resumed : List ℕ → Task → Lists → DispatchChange
with_resumed words t l = record {
  lists = record (with_task t.id resumed l) { running = t.id };
  plain = unlinked_words (packets_taken t);
  regs = resumed_regs l.version (written (unlinked_words (packets_taken t)) words) t;
  events = map (taken_event t) (packets_taken t) ++ Runs t.id ∷ [];
}

-- the ready task runs; without one nobody does
abbrev pub with_next : List ℕ → Lists → Option Task → DispatchChange
with_next words l None = with_nobody l
with_next words l (Some t) = with_resumed words t l

-- the first task of the chain that is ready, so the ready one of highest priority
abbrev pub first_ready_task : Lists → Option Task
first_ready_task l = find is_ready l.tasks

-- the task block of the first ready task
abbrev pub first_ready_block : Lists → Option ℕ
first_ready_block l = option_map task_address (first_ready_task l)

-- the same task runs on with the same registers, and nothing is written
abbrev pub unchanged : Lists → Regs → DispatchChange
unchanged l r = record { lists = l; plain = []; regs = r; events = [] }

-- The task that ran is suspended, and the first ready one goes on, unless it is that task and still runs.
unfoldable pub dispatched : List ℕ → Lists → Regs → DispatchChange
dispatched words l r =
    if goes_on l (first_ready_task l) then unchanged l r else
    with_next words (with_suspended r l) (first_ready_task (with_suspended r l))

-- what a dispatch asks
pub record CanDispatch (l : Lists) (r : Regs) : Type 0 where
  -- no task but the running one has the field of one that runs
  pub field : RunsAlone l
  -- C is a byte, and where no guest runs all registers are 0
  pub registers : AreValidRegisters l r
