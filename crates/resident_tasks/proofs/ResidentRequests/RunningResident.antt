-- The resident that runs: its block, its number, its queue and its state, as the store has them.
use Rattle.std.proofs.Common.{◌≡◌, ℕ, ◌+◌, ◌||◌, true, false, List, [], ◌∷◌, map, cond, eqb, get_or, refl, sym, ap, ◌∙◌, subst}
use Rattle.std.specs.List.{AllByRecursion}
use Rattle.kernel_lists.specs.OwnedWords.Owned.{Holds}
use Rattle.kernel_lists.specs.PacketQueue.QueueWords.{QueuedPacket, first_packet}
use Rattle.kernel_model.specs.KernelRecord.Changes.{with_queue, with_work}
use Rattle.kernel_model.specs.KernelRecord.HoldsLists.{HoldsLists}
use Rattle.kernel_model.specs.KernelRecord.Lists.{Lists, address_of_task, has_task}
use Rattle.kernel_model.specs.KernelRecord.Running.{RunsIf}
use Rattle.kernel_model.specs.KernelRecord.Task.{Task, state_word, state_words, task_address, task_words}
use Rattle.kernel_model.specs.KernelRecord.ValidQueues.Place.{Work}
use Rattle.kernel_model.specs.KernelRecord.ValidTasks.{runs}
use Rattle.kernel_model.proofs.KernelRecord.AllThings.{all-here}
use Rattle.kernel_model.proofs.KernelRecord.EachMember.{holds-each}
use Rattle.kernel_model.proofs.KernelRecord.ReadCoroutines.{holds-task}
use Rattle.kernel_calls.proofs.CallAnswers.FoundTask.{TaskAt, reads}
use Rattle.kernel_calls.proofs.CallAnswers.RunningTask.{there-at}
use Rattle.kernel_calls.proofs.PacketCalls.HeldPlaces.{held-at}
use Rattle.resident_tasks.specs.ResidentRequests.Requests.{RunsResident, work}

module _ (s : List ℕ) (l : Lists) (h : HoldsLists s l) (r : RunsResident l) where
  pub resident-at : TaskAt l.tasks l.running (address_of_task l l.running)
  resident-at = there-at l.running l.tasks r.there

  -- its number is in its block
  pub resident-number : get_or s (address_of_task l l.running + 1) 0 ≡ l.running
  resident-number =
      ap (λ a. get_or s (a + 1) 0) (sym resident-at.at)
      ∙ all-here (λ u. get_or s (u.address + 1) 0 ≡ u.id) resident-at.front resident-at.task resident-at.back
      (subst (AllByRecursion (λ u. get_or s (u.address + 1) 0 ≡ u.id)) resident-at.is
      (holds-each task_address (task_words l.version) s (λ u. get_or s (u.address + 1) 0 ≡ u.id) (λ u n own. (holds-task s l.version u n own).names.0) l.tasks 0 (reads s l h).held_tasks.holds.1))
      ∙ resident-at.number

  -- the head of its queue leads to its first packet
  pub resident-first : get_or s (address_of_task l l.running + 3) 0 ≡ first_packet (work l)
  resident-first = (held-at s l (Work l.running) h r.there).holds.0

  -- its state
  pub resident-state : get_or s (address_of_task l l.running + 4) 0 ≡ state_word resident-at.task
  resident-state =
      ap (λ a. get_or s (a + 4) 0) (sym resident-at.at)
      ∙ (all-here (λ u. Holds s (state_words l.version u)) resident-at.front resident-at.task resident-at.back
      (subst (AllByRecursion (λ u. Holds s (state_words l.version u))) resident-at.is
      (holds-each task_address (task_words l.version) s (λ u. Holds s (state_words l.version u)) (λ u n own. (holds-task s l.version u n own).state) l.tasks 0 (reads s l h).held_tasks.holds.1))).0

  -- its field says that it runs
  pub resident-runs : resident-at.task.field ≡ runs
  resident-runs =
      all-here (λ u. u.id ≡ l.running → u.field ≡ runs) resident-at.front resident-at.task resident-at.back (subst (AllByRecursion (λ u. u.id ≡ l.running → u.field ≡ runs)) resident-at.is r.field) resident-at.number

-- ---- where a work queue changes

with_work-id : (id : ℕ) (ps : List QueuedPacket) (t : Task) → (with_work id ps t).id ≡ t.id
with_work-id id ps t = elim (eqb t.id id) as (λ b. (cond b (record t { queue = ps }) t).id ≡ t.id) [ true ↦ refl | false ↦ refl ]

with_work-field : (id : ℕ) (ps : List QueuedPacket) (t : Task) → (with_work id ps t).field ≡ t.field
with_work-field id ps t = elim (eqb t.id id) as (λ b. (cond b (record t { queue = ps }) t).field ≡ t.field) [ true ↦ refl | false ↦ refl ]

pub has_task-work : (i id : ℕ) (ps : List QueuedPacket) (ts : List Task) → has_task i (map (with_work id ps) ts) ≡ has_task i ts
has_task-work i id ps [] = refl
has_task-work i id ps (t ∷ ts) = λ k. eqb (with_work-id id ps t k) i || has_task-work i id ps ts k

fields-work : (running id : ℕ) (ps : List QueuedPacket) (ts : List Task) → AllByRecursion (RunsIf running) ts
    → AllByRecursion (RunsIf running) (map (with_work id ps) ts)
fields-work running id ps [] all = tt
fields-work running id ps (t ∷ ts) all = ((λ e. with_work-field id ps t ∙ all.0 (sym (with_work-id id ps t) ∙ e)), fields-work running id ps ts all.1)

-- it still runs
pub runs-work : (l : Lists) (id : ℕ) (ps : List QueuedPacket) → RunsResident l → RunsResident (with_queue (Work id) ps l)
runs-work l id ps r = record { resident = r.resident; there = has_task-work l.running id ps l.tasks ∙ r.there; field = fields-work l.running id ps l.tasks r.field }
