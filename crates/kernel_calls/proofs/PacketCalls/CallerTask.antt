-- The task that calls: its number, its queue and its state, as the store has them.
use Rattle.std.proofs.Common.{◌≡◌, ℕ, ◌+◌, ◌≤◌, Bool, true, false, List, [], ◌∷◌, ◌++◌, map, cond, get_or, sym, ap, ◌∙◌, subst, arith}
use Rattle.std.specs.List.{AllByRecursion}
use Rattle.word_store.specs.Count.{IsApart}
use Rattle.kernel_lists.specs.PacketQueue.QueueWords.{QueuedPacket, first_packet}
use Rattle.kernel_model.specs.KernelRecord.Changes.{queue_of}
use Rattle.kernel_model.specs.KernelRecord.HoldsLists.{HoldsLists}
use Rattle.kernel_model.specs.KernelRecord.Lists.{Lists, address_of_task, has_task}
use Rattle.kernel_model.specs.KernelRecord.Task.{Task, queue_bit, state_word, task_address, task_id, task_words}
use Rattle.kernel_model.specs.KernelRecord.ValidQueues.Place.{Work}
use Rattle.kernel_model.specs.KernelRecord.ValidTasks.{runs}
use Rattle.kernel_model.proofs.KernelRecord.AllThings.{all-here}
use Rattle.kernel_model.proofs.KernelRecord.EachMember.{holds-each}
use Rattle.kernel_model.proofs.KernelRecord.ReadCoroutines.{holds-task}
use Rattle.kernel_calls.specs.CallAnswers.Callers.{HasCaller}
use Rattle.kernel_calls.specs.CallAnswers.Guests.{GuestAt}
use Rattle.kernel_calls.proofs.CallAnswers.FoundTask.{found-address, found-there, reads}
use Rattle.kernel_calls.proofs.CallAnswers.GuestTask.{guest-facts}
use Rattle.kernel_calls.proofs.CallAnswers.Refusals.{task-at}
use Rattle.kernel_calls.specs.PacketCalls.Destinations.{queue_for}
use Rattle.kernel_calls.specs.declared.packet_calls.queues.Queue.TheVariants as queues
use Rattle.kernel_calls.proofs.PacketCalls.HeldPlaces.{held-at}

module _ (s : List ℕ) (l : Lists) (id t : ℕ) (h : HoldsLists s l) (g : GuestAt l id t) where
  distinct : IsApart (map task_id (g.front ++ g.task ∷ g.back))
  distinct = subst (λ ts. IsApart (map task_id ts)) g.is h.valid.tasks.distinct

  pub caller-there : has_task id l.tasks ≡ true
  caller-there = found-there l id t (task-at l id t g)

  pub caller-address : address_of_task l id ≡ t
  caller-address = found-address l id t h.valid.tasks.distinct (task-at l id t g)

  pub caller-queue : queue_for l (Work id) ≡ queues.Work t
  caller-queue = ap queues.Work caller-address

  pub caller-number : get_or s (t + 1) 0 ≡ id
  caller-number =
      ap (λ a. get_or s (a + 1) 0) (sym g.at)
      ∙ all-here (λ u. get_or s (u.address + 1) 0 ≡ u.id) g.front g.task g.back
      (subst (AllByRecursion (λ u. get_or s (u.address + 1) 0 ≡ u.id)) g.is
      (holds-each task_address (task_words l.version) s (λ u. get_or s (u.address + 1) 0 ≡ u.id) (λ u n own. (holds-task s l.version u n own).names.0) l.tasks 0 (reads s l h).held_tasks.holds.1))
      ∙ g.number

  -- the first packet
  pub caller-first : get_or s (t + 3) 0 ≡ first_packet (queue_of (Work id) l)
  caller-first = ap (λ a. get_or s (a + 3) 0) (sym caller-address) ∙ (held-at s l (Work id) h caller-there).holds.0

  pub caller-state : get_or s (t + 4) 0 ≡ state_word g.task
  caller-state = (guest-facts s l id t h g).state

-- its field says that it runs
pub caller-runs : (l : Lists) (t : ℕ) → HasCaller l → (g : GuestAt l l.running t) → g.task.field ≡ runs
caller-runs l t c g = all-here (λ u. u.id ≡ l.running → u.field ≡ runs) g.front g.task g.back (subst (AllByRecursion (λ u. u.id ≡ l.running → u.field ≡ runs)) g.is c.field) g.number

low-state : (field bit held : ℕ) → field ≡ 0 → bit ≤ 1 → held ≤ 2 → field + bit + held ≤ 3
low-state field bit held e one two = omega arith

pub caller-low : (t : Task) → t.field ≡ runs → state_word t ≤ 3
caller-low t e = low-state t.field (queue_bit t.queue) (cond t.held 2 0) e (on t.queue) (two t.held)
  where
    on : (ps : List QueuedPacket) → queue_bit ps ≤ 1
    on [] = omega arith
    on (p ∷ ps) = omega arith

    two : (b : Bool) → cond b 2 0 ≤ 2
    two true = omega arith
    two false = omega arith
