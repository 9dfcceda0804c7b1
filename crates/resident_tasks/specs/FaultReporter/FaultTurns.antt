-- A turn of the task that reports faults.
use Rattle.std.specs.Prelude.{◌≡◌, ℕ, ◌+◌, ◌≤◌, ◌==◌, Bool, true, false, if◌then◌else◌, Err, List, [], ◌∷◌, length, map}
use Rattle.word_store.specs.Arithmetic.{signed}
use Rattle.kernel_lists.specs.PacketQueue.QueueWords.{QueuedPacket}
use Rattle.kernel_lists.specs.declared.packet_queue.events.KernelEvent.TheVariants.{Taken}
use Rattle.kernel_model.specs.KernelRecord.Between.{is_unreported}
use Rattle.kernel_model.specs.KernelRecord.Changes.{with_fault_packet, with_queue, with_tasks}
use Rattle.kernel_model.specs.KernelRecord.Lists.{Lists}
use Rattle.kernel_model.specs.KernelRecord.Residents.{fault_packet}
use Rattle.kernel_model.specs.KernelRecord.Task.{Task}
use Rattle.kernel_model.specs.KernelRecord.ValidQueues.Place.{Work}
use Rattle.resident_tasks.specs.ResidentRequests.Answers.{finished}
use Rattle.resident_tasks.specs.ResidentRequests.Requests.{RunsResident, work}
use Rattle.resident_tasks.specs.ResidentRequests.Turns.{ResidentTurn, Served, idle_turn, request_turn, service}
use Rattle.resident_tasks.specs.declared.resident_requests.requests.Request.{Request}
use Rattle.kernel_model.specs.declared.kernel_record.numbers.TheConstants.{REPORTER}
use Rattle.resident_tasks.specs.declared.resident_requests.requests.TheConstants.{UNKNOWN_TYPE}
use Rattle.resident_tasks.specs.FaultReporter.Texts.{most_reported, reports}

-- Task 2 runs, and there is room for its lines among the bytes that go to the console.
pub record CanReport (shown : List ℕ) (l : Lists) : Type 0 where
  -- a resident runs
  pub runs : RunsResident l
  -- it is the task that reports faults
  pub reporter : l.running ≡ REPORTER
  -- its lines fit after the bytes that wait
  pub room : length shown + most_reported ≤ 8192

-- a fault that is reported has 256 more in its word
abbrev pub reported : Task → Task
reported t = if is_unreported t then record t { fault = t.fault + 256 } else t

-- the lists once each fault is reported that was not
abbrev pub all_reported : Lists → Lists
all_reported l = with_tasks (map reported l.tasks) l

-- the fault packet goes off the queue of task 2, on which these packets are left
abbrev pub packet_taken : List QueuedPacket → Lists → Lists
packet_taken ps l = with_fault_packet true (with_queue (Work REPORTER) ps l)

-- the turn with the fault packet: it is taken, and all faults that were not reported yet are
abbrev pub reported_turn : QueuedPacket → List QueuedPacket → List ℕ → Lists → ResidentTurn
reported_turn p ps s l = record {
  words = s;
  lists = finished (all_reported (packet_taken ps l));
  plain = [];
  bytes = reports l;
  events = Taken (signed REPORTER) fault_packet (signed p.sender) ∷ [];
}

-- every other packet is refused
abbrev pub unknown : List ℕ → Lists → Request → Served
unknown s l r = service (Err UNKNOWN_TYPE) 0 []

-- the first packet is the fault packet
abbrev pub is_fault_first : List QueuedPacket → Bool
is_fault_first [] = false
is_fault_first (p ∷ ps) = p.address == fault_packet

-- the first packet is the fault packet
abbrev pub IsFaultFirst : List QueuedPacket → Type 0
IsFaultFirst ps = is_fault_first ps ≡ true

-- With the fault packet first, all faults are reported; any other packet is a request, which is refused.
abbrev pub fault_turn_from : List QueuedPacket → List ℕ → Lists → ResidentTurn
fault_turn_from [] s l = idle_turn s l
fault_turn_from (p ∷ ps) s l = if p.address == fault_packet then reported_turn p ps s l else request_turn unknown s l

-- the turn of the task that reports faults
abbrev pub fault_turn : List ℕ → Lists → ResidentTurn
fault_turn s l = fault_turn_from (work l) s l

-- ---- its parts

-- the lists once the first packet, the fault packet, is taken
abbrev pub fault_taken_from : List QueuedPacket → Lists → Lists
fault_taken_from [] l = l
fault_taken_from (p ∷ ps) l = packet_taken ps l

-- the task that sent the first packet
abbrev pub sender_of : List QueuedPacket → ℕ
sender_of [] = 0
sender_of (p ∷ ps) = p.sender
