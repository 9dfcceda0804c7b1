-- The turn in which faults are reported, one part after another.
use Rattle.std.proofs.Common.{◌≡◌, ℕ, ◌+◌, ◌||◌, Bool, true, false, Option, List, [], ◌∷◌, ◌++◌, map, cond, eqb, refl, sym, ap, ◌∙◌, subst, arith}
use Rattle.std.specs.List.{AllByRecursion}
use Rattle.word_store.specs.Arithmetic.{signed}
use Rattle.kernel_lists.specs.PacketQueue.QueueWords.{QueuedPacket}
use Rattle.kernel_lists.specs.declared.packet_queue.events.KernelEvent.{KernelEvent}
use Rattle.kernel_lists.specs.declared.packet_queue.events.KernelEvent.TheVariants.{Taken}
use Rattle.kernel_model.specs.KernelRecord.Between.{is_unreported}
use Rattle.kernel_model.specs.KernelRecord.ChangedStore.{HasKeeper}
use Rattle.kernel_model.specs.KernelRecord.Changes.{with_queue}
use Rattle.kernel_model.specs.KernelRecord.Lists.{Lists, has_task}
use Rattle.kernel_model.specs.KernelRecord.NotedEvents.{NotesAll}
use Rattle.kernel_model.specs.KernelRecord.Residents.{fault_packet}
use Rattle.kernel_model.specs.KernelRecord.Running.{RunsIf}
use Rattle.kernel_model.specs.KernelRecord.Task.{Task}
use Rattle.kernel_model.specs.KernelRecord.ValidLists.{AreValid}
use Rattle.kernel_model.specs.KernelRecord.ValidQueues.{IsKeyPacket, IsValidPacket, is_fault_packet, is_key_packet}
use Rattle.kernel_model.specs.KernelRecord.ValidQueues.Place.{Work}
use Rattle.kernel_model.specs.KernelRecord.ValidTasks.{runs}
use Rattle.kernel_model.proofs.KernelRecord.ChangedLists.{changed-then, knows-same}
use Rattle.kernel_model.proofs.KernelRecord.QueuePlaces.{valid-at-place}
use Rattle.std.proofs.lemmas.Bool.{and_parts, false≢true, false_from_ne_true}
use Rattle.kernel_calls.specs.CallAnswers.Outside.{outside}
use Rattle.resident_tasks.specs.ResidentRequests.Answers.{IsFinished, finished}
use Rattle.resident_tasks.specs.ResidentRequests.Requests.{IsForeign, RunsResident, TakesRequest, first_request, taken, words_taken, work}
use Rattle.resident_tasks.specs.ResidentRequests.Turns.{IsResidentTurn, request_turn, turn_of}
use Rattle.resident_tasks.proofs.ResidentRequests.RunningResident.{runs-work}
use Rattle.resident_tasks.specs.FaultReporter.FaultTurns.{IsFaultFirst, all_reported, fault_turn, fault_turn_from, is_fault_first, packet_taken, reported, reported_turn, sender_of, fault_taken_from, unknown}
use Rattle.resident_tasks.specs.FaultReporter.Recorded.{OwnsSame}
use Rattle.resident_tasks.specs.FaultReporter.Texts.{reports}
use Rattle.resident_tasks.proofs.FaultReporter.ReportLines.{reports-taken}

-- ---- the resident still runs

pub taken-runs : (l : Lists) → RunsResident l → RunsResident (fault_taken_from (work l) l)
taken-runs l r = on (work l)
  where
    on : (ps : List QueuedPacket) → RunsResident (fault_taken_from ps l)
    on [] = r
    on (p ∷ ps) = (let x : RunsResident (with_queue (Work 2) ps l) = runs-work l 2 ps r in record { resident = x.resident; there = x.there; field = x.field })

reported-id : (t : Task) → (reported t).id ≡ t.id
reported-id t = elim (is_unreported t) as (λ b. (cond b (record t { fault = t.fault + 256 }) t).id ≡ t.id) [ true ↦ refl | false ↦ refl ]

reported-field : (t : Task) → (reported t).field ≡ t.field
reported-field t = elim (is_unreported t) as (λ b. (cond b (record t { fault = t.fault + 256 }) t).field ≡ t.field) [ true ↦ refl | false ↦ refl ]

pub has_task-reported : (i : ℕ) (ts : List Task) → has_task i (map reported ts) ≡ has_task i ts
has_task-reported i [] = refl
has_task-reported i (t ∷ ts) = λ k. eqb (reported-id t k) i || has_task-reported i ts k

fields-reported : (running : ℕ) (ts : List Task) → AllByRecursion (RunsIf running) ts → AllByRecursion (RunsIf running) (map reported ts)
fields-reported running [] all = tt
fields-reported running (t ∷ ts) all = ((λ e. reported-field t ∙ all.0 (sym (reported-id t) ∙ e)), fields-reported running ts all.1)

pub reported-runs : (l : Lists) → RunsResident l → RunsResident (all_reported l)
reported-runs l r = record { resident = r.resident; there = has_task-reported l.running l.tasks ∙ r.there; field = fields-reported l.running l.tasks r.field }

-- ---- the parts

pub reports-same : (l : Lists) → reports (fault_taken_from (work l) l) ≡ reports l
reports-same l = on (work l)
  where
    on : (ps : List QueuedPacket) → reports (fault_taken_from ps l) ≡ reports l
    on [] = refl
    on (p ∷ ps) = reports-taken l ps

-- and the turn ends
pub then-finished : (s t u : List ℕ) (l m : Lists) → OwnsSame s t l m → IsFinished t u m → OwnsSame s u l (finished m)
then-finished s t u l m x f =
    record { lists = changed-then s t u m (finished m) [] x.lists f.lists (λ a none. sym (f.same a) ∙ none); same = λ a. f.same a ∙ x.same a }

-- ---- which packet is first

module _ (l : Lists) (v : AreValid l) (r : RunsResident l) (two : l.running ≡ 2) (other : is_fault_first (work l) ≡ false) where
  pub takes-other : TakesRequest l
  takes-other = record { runs = r; foreign = on (work l) (valid-at-place l (Work l.running) v r.there) other }
    where
      on : (ps : List QueuedPacket) → AllByRecursion (IsValidPacket l (Work l.running)) ps → is_fault_first ps ≡ false → IsForeign l ps
      on [] valid-packets e = tt
      on (p ∷ ps) valid-packets e = (
        false_from_ne_true (is_key_packet l p) (λ is. (let i : IsKeyPacket (Work l.running) p = valid-packets.0.key is in absurd (omega (arith, i.place.0, two)))),
        false_from_ne_true (is_fault_packet l p) (λ is. false≢true (sym e ∙ (and_parts (has_task 2 l.tasks) (eqb p.address fault_packet) is).1)),
      )

  pub other-turn : (s : List ℕ) → request_turn unknown s l ≡ fault_turn s l
  other-turn s = on (work l) refl other
    where
      on : (ps : List QueuedPacket) → work l ≡ ps → is_fault_first ps ≡ false → request_turn unknown s l ≡ fault_turn_from ps s l
      on [] is e = ap (λ qs. turn_of (first_request (words_taken s l) qs) (unknown (words_taken s l) (taken l).lists) s l) is
      on (p ∷ ps) is e = sym (ap (λ b. cond b (reported_turn p ps s l) (request_turn unknown s l)) e)

-- ---- the whole turn

pub turn-reported : (s v : List ℕ) (tells : List ℕ → Type 0) (room : ℕ) (l : Lists) (before shown : List ℕ) (old new : Option (List KernelEvent)) (f g : Bool) → HasKeeper s tells room l → IsFaultFirst (work l)
    → OwnsSame s v l (finished (all_reported (fault_taken_from (work l) l))) → shown ≡ before ++ reports l → NotesAll old new f g (Taken (signed 2) fault_packet (signed (sender_of (work l))) ∷ [])
    → IsResidentTurn v tells (outside before old f) (outside shown new g) (fault_turn s l)
turn-reported s v tells room l before shown old new f g k is x bytes notes = on (work l) is x notes
  where
    on : (ps : List QueuedPacket) → IsFaultFirst ps → OwnsSame s v l (finished (all_reported (fault_taken_from ps l))) → NotesAll old new f g (Taken (signed 2) fault_packet (signed (sender_of ps)) ∷ [])
        → IsResidentTurn v tells (outside before old f) (outside shown new g) (fault_turn_from ps s l)
    on [] is x notes = cc
    on (p ∷ ps) is x notes =
        subst (IsResidentTurn v tells (outside before old f) (outside shown new g)) (sym (ap (λ b. cond b (reported_turn p ps s l) (request_turn unknown s l)) is))
        (record { lists = x.lists; knows = knows-same tells l (finished (all_reported (packet_taken ps l))) x.same k.knows; bytes = bytes; notes = notes })
