-- What a turn of the task that reports faults keeps.
use Rattle.std.proofs.Common.{◌≡◌, ℕ, ◌+◌, Bool, true, false, cond, eqb, List, [], ◌∷◌, map, refl}
use Rattle.std.specs.List.{AllByRecursion}
use Rattle.kernel_lists.specs.PacketQueue.QueueWords.{QueuedPacket}
use Rattle.kernel_model.specs.KernelRecord.Between.{is_unreported}
use Rattle.kernel_model.specs.KernelRecord.Changes.{with_queue}
use Rattle.kernel_model.specs.KernelRecord.Lists.{Lists}
use Rattle.kernel_model.specs.KernelRecord.Residents.{fault_packet}
use Rattle.kernel_model.specs.KernelRecord.Running.{RunsAs}
use Rattle.kernel_model.specs.KernelRecord.Task.{Task}
use Rattle.kernel_model.specs.KernelRecord.ValidQueues.Place.{Work}
use Rattle.resident_tasks.specs.ResidentRequests.Answers.{finished, finished_by, returned}
use Rattle.resident_tasks.specs.ResidentRequests.Requests.{work}
use Rattle.resident_tasks.specs.ResidentRequests.Turns.{request_turn}
use Rattle.guest_turns.specs.GuestTurn.{Numbers}
use Rattle.guest_turns.proofs.RunningField.{RunsIn, queue-runs}
use Rattle.resident_tasks.specs.FaultReporter.FaultTurns.{all_reported, fault_turn, fault_turn_from, packet_taken, reported, reported_turn, unknown}
use Rattle.kernel_machine.proofs.KernelSteps.HandledRules.{finished-runs, request-lists, request-runs}

-- ---- who runs

reported-alone : (id : ℕ) (ts : List Task) → AllByRecursion (RunsAs id) ts → AllByRecursion (RunsAs id) (map reported ts)
reported-alone id [] all = tt
reported-alone id (t ∷ ts) all = (on (is_unreported t), reported-alone id ts all.1)
  where
    on : (b : Bool) → RunsAs id (cond b (record t { fault = t.fault + 256 }) t)
    on true = all.0
    on false = all.0

pub report-runs : (nums : Numbers) (s : List ℕ) (l : Lists) → RunsIn nums l → RunsIn nums (fault_turn s l).lists
report-runs nums s l h = on (work l)
  where
    taken : (ps : List QueuedPacket) → RunsIn nums (all_reported (packet_taken ps l))
    taken ps = (let x : RunsIn nums (with_queue (Work 2) ps l) = queue-runs nums l (Work 2) ps h in record { numbers = x.numbers; alone = reported-alone nums.running (packet_taken ps l).tasks x.alone })

    on : (ps : List QueuedPacket) → RunsIn nums (fault_turn_from ps s l).lists
    on [] = finished-runs nums l h
    on (p ∷ ps) = by (eqb p.address fault_packet)
      where
        by : (b : Bool) → RunsIn nums (cond b (reported_turn p ps s l) (request_turn unknown s l)).lists
        by true = finished-runs nums (all_reported (packet_taken ps l)) (taken ps)
        by false = request-runs nums l h unknown s

-- ---- what does not change

-- the key packet, and the reads that wait for a line
pub record SameReads (l m : Lists) : Type 0 where
  pub key : m.key ≡ l.key
  pub pending : m.pending ≡ l.pending

finished-reads : (l m : Lists) → m.key ≡ l.key → m.pending ≡ l.pending → SameReads l (finished m)
finished-reads l m key pending = on (work m)
  where
    on : (ps : List QueuedPacket) → SameReads l (finished_by ps m)
    on [] = record { key = key; pending = pending }
    on (p ∷ ps) = record { key = key; pending = pending }

pub report-reads : (s : List ℕ) (l : Lists) → SameReads l (fault_turn s l).lists
report-reads s l = on (work l)
  where
    on : (ps : List QueuedPacket) → SameReads l (fault_turn_from ps s l).lists
    on [] = finished-reads l l refl refl
    on (p ∷ ps) = by (eqb p.address fault_packet)
      where
        by : (b : Bool) → SameReads l (cond b (reported_turn p ps s l) (request_turn unknown s l)).lists
        by true = finished-reads l (all_reported (packet_taken ps l)) refl refl
        by false = request-lists (SameReads l) l (finished-reads l l refl refl) (λ q qs is r same answer. finished-reads l (returned (with_queue (Work l.running) qs l) r answer).lists refl refl) unknown s
