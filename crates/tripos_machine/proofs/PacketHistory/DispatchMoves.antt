-- A dispatch takes the packet with which a task goes on, if it takes one.
use Rattle.std.proofs.Common.{◌≡◌, ℕ, Bool, true, false, cond, eqb, Some, List, [], ◌∷◌, ◌++◌, drop, map, take, refl, sym, ap, ◌∙◌, subst}
use Rattle.word_store.specs.Count.{IsApart}
use Rattle.word_store.specs.declared.registers.Regs.{Regs}
use Rattle.kernel_lists.specs.PacketQueue.QueueWords.{QueuedPacket}
use Rattle.kernel_lists.specs.declared.packet_queue.events.KernelEvent.{KernelEvent}
use Rattle.kernel_lists.specs.declared.packet_queue.events.KernelEvent.TheVariants.{Runs}
use Rattle.kernel_model.specs.KernelRecord.Between.{is_ready}
use Rattle.kernel_model.specs.KernelRecord.Changes.{change_of, with_queue, with_task, with_work, work_of}
use Rattle.kernel_model.specs.KernelRecord.Lists.{Lists, has_task}
use Rattle.kernel_model.specs.KernelRecord.Task.{Task, task_id}
use Rattle.kernel_model.specs.KernelRecord.ValidLists.{AreValid}
use Rattle.kernel_model.specs.KernelRecord.ValidQueues.Place.{Work}
use Rattle.kernel_model.proofs.KernelRecord.ChainSplits.{IsBetween, change-between, found-between, has_task-between, work_of-between}
use Rattle.kernel_model.specs.KernelDispatch.Dispatch.{DispatchChange, dispatched, first_ready_task, packets_left, packets_taken, resumed, suspended, taken_event, takes_packet, with_nobody, with_resumed, with_suspended}
use Rattle.kernel_machine.proofs.KernelSteps.DispatchKept.{three-ways}
use Rattle.kernel_machine.proofs.KernelSteps.DispatchedTasks.{ids-changed}
use Rattle.tripos_machine.specs.PacketHistory.Queues.{Moves, ledger_of}
use Rattle.tripos_machine.proofs.PacketHistory.Ledgers.{ledger-same, ledger-task}
use Rattle.tripos_machine.proofs.PacketHistory.Moves.{low-named, move-none, move-runs, move-taken, moves-from, moves-then}
use Rattle.tripos_machine.proofs.PacketHistory.ValidLedgers.{IsNumber, has_task-changed, task-number}

-- one task in place of another with its number and its queue
work-put : (n : ℕ) (front : List Task) (t u : Task) (back : List Task) → u.id ≡ t.id → u.queue ≡ t.queue → work_of n (front ++ u ∷ back) ≡ work_of n (front ++ t ∷ back)
work-put n [] t u back id queue = λ i. cond (eqb (id i) n) (queue i) (work_of n back)
work-put n (z ∷ zs) t u back id queue = ap (λ w. cond (eqb z.id n) z.queue w) (work-put n zs t u back id queue)

module _ (due : KernelEvent → ℕ) (words : List ℕ) (l : Lists) (r : Regs) (v : AreValid l) where
  abbrev m : Lists
  m = with_suspended r l

  suspended-same : ledger_of m ≡ ledger_of l
  suspended-same = ledger-task l l.running (suspended r) (λ t. (refl, refl))

  apart : IsApart (map task_id m.tasks)
  apart = subst IsApart (sym (ids-changed l.running (suspended r) (λ t. refl) l.tasks)) v.tasks.distinct

  abbrev Moved : DispatchChange → Type 0
  Moved d = Moves due l d.events d.lists

  nobody : Moved (with_nobody m)
  nobody = on (eqb l.running 0)
    where
      idle : ledger_of (record m { running = 0 }) ≡ ledger_of l
      idle = ledger-same m (record m { running = 0 }) (λ n. refl) refl refl refl refl ∙ suspended-same

      on : (b : Bool) → Moves due l (cond b [] (Runs 0 ∷ [])) (record m { running = 0 })
      on true = move-none due l (record m { running = 0 }) idle
      on false = move-runs due l (record m { running = 0 }) 0 idle

  module _ (t : Task) (is : first_ready_task m ≡ Some t) where
    place : IsBetween m.tasks t
    place = (found-between is_ready m.tasks t is).0

    apart-here : IsApart (map task_id (place.front ++ t ∷ place.back))
    apart-here = subst (λ ts. IsApart (map task_id ts)) place.is apart

    there : has_task t.id l.tasks ≡ true
    there = sym (has_task-changed t.id l.running (suspended r) (λ u. refl) l.tasks) ∙ ap (has_task t.id) place.is ∙ has_task-between place.front t place.back

    low : IsNumber t.id
    low = task-number l v t.id there

    queue : work_of t.id m.tasks ≡ t.queue
    queue = ap (work_of t.id) place.is ∙ work_of-between place.front t place.back apart-here

    -- but for its queue the task that goes on changes nothing of queues
    left : ledger_of (with_task t.id resumed m) ≡ ledger_of (with_queue (Work t.id) (packets_left t) m)
    left = ledger-same (with_queue (Work t.id) (packets_left t) m) (with_task t.id resumed m) same refl refl refl refl
      where
        emptied : Task → Task
        emptied u = record u { queue = packets_left t }

        same : (n : ℕ) → work_of n (map (change_of t.id resumed) m.tasks) ≡ work_of n (map (with_work t.id (packets_left t)) m.tasks)
        same n =
            ap (λ ts. work_of n (map (change_of t.id resumed) ts)) place.is ∙ ap (work_of n) (change-between resumed place.front t place.back apart-here)
            ∙ work-put n place.front (emptied t) (resumed t) place.back refl refl
            ∙ sym (ap (work_of n) (change-between emptied place.front t place.back apart-here)) ∙ sym (ap (λ ts. work_of n (map (change_of t.id emptied) ts)) place.is)

    abbrev after : Lists
    after = (with_resumed words t m).lists

    same-after : ledger_of after ≡ ledger_of (with_queue (Work t.id) (packets_left t) m)
    same-after = ledger-same (with_task t.id resumed m) after (λ n. refl) refl refl refl refl ∙ left

    -- nothing is taken
    stays : packets_taken t ≡ [] → packets_left t ≡ t.queue → Moved (with_resumed words t m)
    stays none all =
        subst (λ ps. Moves due l (map (taken_event t) ps ++ Runs t.id ∷ []) after) (sym none)
        (move-runs due l after t.id (same-after ∙ unchanged-queue ∙ suspended-same))
      where
        unchanged-queue : ledger_of (with_queue (Work t.id) (packets_left t) m) ≡ ledger_of m
        unchanged-queue = ledger-same m (with_queue (Work t.id) (packets_left t) m) each refl refl refl refl
          where
            emptied : Task → Task
            emptied u = record u { queue = packets_left t }

            each : (n : ℕ) → work_of n (map (with_work t.id (packets_left t)) m.tasks) ≡ work_of n m.tasks
            each n =
                ap (λ ts. work_of n (map (change_of t.id emptied) ts)) place.is ∙ ap (work_of n) (change-between emptied place.front t place.back apart-here)
                ∙ work-put n place.front t (emptied t) place.back refl all ∙ sym (ap (work_of n) place.is)

    -- the first packet is taken
    takes : (p : QueuedPacket) (ps : List QueuedPacket) → t.queue ≡ p ∷ ps → packets_taken t ≡ p ∷ [] → packets_left t ≡ ps → Moved (with_resumed words t m)
    takes p ps whole one rest =
        subst (λ qs. Moves due l (map (taken_event t) qs ++ Runs t.id ∷ []) after) (sym one)
        (moves-then due l (with_queue (Work t.id) ps m) after (taken_event t p ∷ []) (Runs t.id ∷ [])
        (moves-from due l m (with_queue (Work t.id) ps m) (taken_event t p ∷ []) suspended-same (move-taken due m (Work t.id) p ps here (low-named t.id low.high) (queue ∙ whole)))
        (move-runs due (with_queue (Work t.id) ps m) after t.id (same-after ∙ ap (λ qs. ledger_of (with_queue (Work t.id) qs m)) rest)))
      where
        here : has_task t.id m.tasks ≡ true
        here = has_task-changed t.id l.running (suspended r) (λ u. refl) l.tasks ∙ there

    next : Moved (with_resumed words t m)
    next = on (takes_packet t) refl t.queue refl
      where
        on : (b : Bool) → takes_packet t ≡ b → (qs : List QueuedPacket) → t.queue ≡ qs → Moved (with_resumed words t m)
        on false is qs e = stays (ap (λ b. cond b (take 1 t.queue) []) is) (ap (λ b. cond b (drop 1 t.queue) t.queue) is)
        on true is [] e = stays (ap (λ b. cond b (take 1 t.queue) []) is ∙ ap (take 1) e) (ap (λ b. cond b (drop 1 t.queue) t.queue) is ∙ ap (drop 1) e ∙ sym e)
        on true is (p ∷ ps) e = takes p ps e (ap (λ b. cond b (take 1 t.queue) []) is ∙ ap (take 1) e) (ap (λ b. cond b (drop 1 t.queue) t.queue) is ∙ ap (drop 1) e)

  pub dispatch-moves : Moved (dispatched words l r)
  dispatch-moves = three-ways words l r Moved (λ t g. move-none due l l refl) (λ none. nobody) (λ t is. next t is)
