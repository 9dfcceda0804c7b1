-- A fault of the guest that runs is recorded: the guest is held, and task 2 is told.
use Rattle.std.specs.Prelude.{◌≡◌, ℕ, Bool, true, false, List, [], ◌∷◌}
use Rattle.word_store.specs.Arithmetic.{signed}
use Rattle.instruction_set.specs.declared.Fault.{Fault}
use Rattle.kernel_lists.specs.OwnedWords.Owned.{owners}
use Rattle.kernel_lists.specs.PacketQueue.QueueWords.{QueuedPacket}
use Rattle.kernel_lists.specs.declared.packet_queue.events.KernelEvent.{KernelEvent}
use Rattle.kernel_lists.specs.declared.packet_queue.events.KernelEvent.TheVariants.{Accepted}
use Rattle.kernel_model.specs.KernelRecord.ChangedStore.{IsChanged}
use Rattle.kernel_model.specs.KernelRecord.Changes.{with_fault_packet, with_task}
use Rattle.kernel_model.specs.KernelRecord.Lists.{Lists, has_task}
use Rattle.kernel_model.specs.KernelRecord.Owned.{owned}
use Rattle.kernel_model.specs.KernelRecord.Residents.{fault_packet}
use Rattle.kernel_model.specs.KernelRecord.Task.{Task}
use Rattle.kernel_model.specs.KernelRecord.ValidQueues.Place.{Work}
use Rattle.kernel_model.specs.KernelRecord.ValidTasks.{IsRecordedFault}
use Rattle.kernel_calls.specs.CallAnswers.Callers.{HasCaller}
use Rattle.kernel_calls.specs.PacketCalls.PacketMoves.{with_arrived}
use Rattle.kernel_model.specs.declared.kernel_record.numbers.TheConstants.{FAULT_KIND, REPORTER}

-- A guest runs, there is a task that reports faults, and the fault is one that it reports.
pub record CanRecord (l : Lists) (f : Fault) : Type 0 where
  -- a guest runs
  pub caller : HasCaller l
  -- the task that reports faults is there
  pub reporter : has_task REPORTER l.tasks ≡ true
  -- the code is one that is recorded
  pub fault : IsRecordedFault f.code

-- ---- the guest

-- the task is held, and has this fault, whatever fault it had
abbrev pub with_fault : Fault → Task → Task
with_fault f t = record t { held = true; fault = f.code; fault_address = f.address }

-- the lists once the running task is held with this fault
abbrev pub held_with : Fault → Lists → Lists
held_with f l = with_task l.running (with_fault f) l

-- ---- the fault packet

-- the fault packet, as the task with this number sends it
abbrev pub packet_from : ℕ → QueuedPacket
packet_from id = record { address = fault_packet; sender = id; kind = FAULT_KIND; res1 = 0; last = 0 }

-- where the fault packet is on no queue the running task sends it to task 2
abbrev pub sent_where : Bool → Lists → Lists
sent_where false l = l
sent_where true l = with_fault_packet false (with_arrived (Work REPORTER) (packet_from l.running) l)

-- the event that it is sent, where it is
abbrev pub events_where : Bool → Lists → List KernelEvent
events_where false l = []
events_where true l = Accepted (signed REPORTER) fault_packet (signed l.running) ∷ []

-- task 2 is told of a fault, unless the fault packet is already on its way to it
abbrev pub sent : Lists → Lists
sent l = sent_where l.fault_packet_free l

-- the event of that
abbrev pub sent_events : Lists → List KernelEvent
sent_events l = events_where l.fault_packet_free l

-- ---- both

-- the running task is held with this fault, and task 2 is told
abbrev pub recorded : Fault → Lists → Lists
recorded f l = sent (held_with f l)

-- the event of that, if there is one
abbrev pub recorded_events : Fault → Lists → List KernelEvent
recorded_events f l = sent_events (held_with f l)

-- the store that was s is t: it holds these lists in place of l, and the same words are owned
pub record OwnsSame (s t : List ℕ) (l m : Lists) : Type 0 where
  -- the store holds these lists, and no plain word has changed
  pub lists : IsChanged s t m []
  -- the same words are owned
  pub same : (a : ℕ) → owners a (owned m) ≡ owners a (owned l)
