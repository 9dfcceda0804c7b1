-- A guest has another priority and another place in the chain, and the lists stay valid.
use Rattle.std.proofs.Common.{◌≡◌, ◌≢◌, ℕ, ◌+◌, ◌≤◌, List, [], ◌∷◌, ◌++◌, map, eqb, nat_lt, ◌||◌, Bool, true, false, inl, inr, refl, sym, ap, ◌∙◌, subst}
use Rattle.std.specs.List.{AllByRecursion, list_any}
use Rattle.std.proofs.lemmas.List.Folds.{list_any-append}
use Rattle.word_store.specs.Count.{times}
use Rattle.kernel_lists.proofs.LinkedList.Places.{IsPlace, place}
use Rattle.kernel_lists.specs.OwnedWords.Owned.{owners}
use Rattle.kernel_lists.specs.PacketQueue.QueueWords.{QueuedPacket}
use Rattle.kernel_lists.specs.TaskBlock.ChainWords.{listed_words}
use Rattle.kernel_model.specs.KernelRecord.Changes.{with_tasks}
use Rattle.kernel_model.specs.KernelRecord.Lists.{Lists, has_task, is_queued}
use Rattle.kernel_model.specs.KernelRecord.MovedTask.{with_moved_task, with_priority}
use Rattle.kernel_model.specs.KernelRecord.Owned.{owned}
use Rattle.kernel_model.specs.KernelRecord.Residents.{fault_packet, key_packet}
use Rattle.kernel_model.specs.KernelRecord.Task.{Task, is_guest_id, task_address, task_id, task_words}
use Rattle.kernel_model.specs.KernelRecord.ValidLists.{AreValid}
use Rattle.kernel_model.specs.KernelRecord.ValidQueues.{IsValidPacket, Place}
use Rattle.kernel_model.specs.KernelRecord.ValidQueues.Place.{Clock, Keyboard, Output, Pending, Work}
use Rattle.kernel_model.specs.KernelRecord.ValidTasks.{AreValidCoroutines, IsTask, PrioritiesFall}
use Rattle.kernel_model.specs.KernelRecord.Versions.{highest_id_of}
use Rattle.kernel_model.proofs.KernelRecord.AllThings.{all-beside, all-between, all-here}
use Rattle.kernel_model.proofs.KernelRecord.AlteredTask.{IsTask-altered}
use Rattle.kernel_model.proofs.KernelRecord.ChainChanges.{chain-valid}
use Rattle.kernel_model.proofs.KernelRecord.ChainRules.{falls-beside, falls-insert, times-id}
use Rattle.kernel_model.proofs.KernelRecord.EachMember.{all-each}
use Rattle.kernel_model.proofs.KernelRecord.OwnerCounts.{owned-tasks, owners-task_between, owns-without}
use Rattle.kernel_model.proofs.KernelRecord.QueuedPackets.{fault-kept, is_on_queue, is_queued-same, key-kept, work_packets}
use Rattle.kernel_model.proofs.KernelRecord.RulesKept.{IsValidPacket-more}

pub or-swap : (x y z : Bool) → (x || (y || z)) ≡ (y || (x || z))
or-swap true true z = refl
or-swap true false z = refl
or-swap false y z = refl

-- one of them, and the others
any-out : {X : Type 0} (f : X → Bool) (front : List X) (x : X) (back : List X) → list_any f (front ++ x ∷ back) ≡ (f x || list_any f (front ++ back))
any-out f [] x back = refl
any-out f (y ∷ ys) x back = ap (λ b. f y || b) (any-out f ys x back) ∙ or-swap (f y) (f x) (list_any f (ys ++ back))

work_packets-out : (a : ℕ) (front : List Task) (t : Task) (back : List Task) → is_on_queue a (work_packets (front ++ t ∷ back)) ≡ (is_on_queue a t.queue || is_on_queue a (work_packets (front ++ back)))
work_packets-out a [] t back = list_any-append (λ q. eqb q.address a) t.queue (work_packets back)
work_packets-out a (z ∷ zs) t back =
    list_any-append (λ q. eqb q.address a) z.queue (work_packets (zs ++ t ∷ back))
    ∙ ap (λ b. is_on_queue a z.queue || b) (work_packets-out a zs t back)
    ∙ or-swap (is_on_queue a z.queue) (is_on_queue a t.queue) (is_on_queue a (work_packets (zs ++ back)))
    ∙ ap (λ b. is_on_queue a t.queue || b) (sym (list_any-append (λ q. eqb q.address a) z.queue (work_packets (zs ++ back))))

module _ (l : Lists) (front : List Task) (t : Task) (back : List Task) (priority : ℕ) (v : AreValid l) (is : l.tasks ≡ front ++ t ∷ back) (guest : is_guest_id t.id ≡ true)
    (low : 1 ≤ priority) (high : priority ≤ 10000) where
  abbrev u : Task
  u = with_priority priority t

  moved-between : (before after : List Task) → front ++ back ≡ before ++ after → PrioritiesFall (before ++ u ∷ after) → AreValid (with_tasks (before ++ u ∷ after) l)
  moved-between before after whole order =
      chain-valid l (before ++ u ∷ after) l.key l.fault_packet_free v
      (record {
        residents = λ i _. same i;
        each =
            all-moved (IsTask l)
            (IsTask-altered l t t.flags t.held priority low high guest (all-here (IsTask l) front t back (subst (AllByRecursion (IsTask l)) is v.tasks.each)))
            v.tasks.each;
        distinct = λ a.
            subst (λ n. n ≤ 1)
            (ap (λ z. times a (map task_id z)) is
            ∙ times-id a front t back
            ∙ ap (λ z. times a (task_id t ∷ map task_id z)) whole
            ∙ sym (times-id a before u after))
            (v.tasks.distinct a);
        order = order;
        coroutines =
            all-moved (AreValidCoroutines l)
            (let c = all-here (AreValidCoroutines l) front t back (subst (AllByRecursion (AreValidCoroutines l)) is v.coroutines) in
            record { each = c.each; members = c.members; distinct = c.distinct })
            v.coroutines;
        work = all-moved (λ z. AllByRecursion (IsValidPacket m (Work z.id)) z.queue) (all-here (λ z. AllByRecursion (IsValidPacket m (Work z.id)) z.queue) front t back (subst (AllByRecursion (λ z. AllByRecursion (IsValidPacket m (Work z.id)) z.queue)) is work)) work;
        clock = kept Clock l.clock v.queues.clock;
        keyboard = kept Keyboard l.keyboard v.queues.keyboard;
        output = kept Output l.output v.queues.output;
        pending = kept Pending l.pending v.queues.pending;
        key = key-kept l m v.queues.key (λ _. queued key_packet);
        fault = fault-kept l m v.queues.fault (λ _. queued fault_packet);
        running = elim v.queues.running [ inl e ↦ inl e | inr some ↦ inr (same l.running ∙ some) ];
        owns = owns-without l m (λ _. 0) refl count v.owns;
      })
    where
      m : Lists
      m = with_tasks (before ++ u ∷ after) l

      all-moved : (P : Task → Type 0) → P u → AllByRecursion P l.tasks → AllByRecursion P (before ++ u ∷ after)
      all-moved P h all = all-between P before u after h (subst (AllByRecursion P) whole (all-beside P front t back (subst (AllByRecursion P) is all)))

      same : (i : ℕ) → has_task i (before ++ u ∷ after) ≡ has_task i l.tasks
      same i =
          any-out (λ z. eqb z.id i) before u after
          ∙ ap (λ z. eqb t.id i || has_task i z) (sym whole)
          ∙ sym (any-out (λ z. eqb z.id i) front t back)
          ∙ ap (has_task i) (sym is)

      kept : (at : Place) (ps : List QueuedPacket) → AllByRecursion (IsValidPacket l at) ps → AllByRecursion (IsValidPacket m at) ps
      kept at ps all = all-each (IsValidPacket l at) (IsValidPacket m at) (λ p h. IsValidPacket-more l m at p refl (same 2) (λ d. d) (λ i some. same i ∙ some) h) ps all

      work : AllByRecursion (λ z. AllByRecursion (IsValidPacket m (Work z.id)) z.queue) l.tasks
      work = all-each (λ z. AllByRecursion (IsValidPacket l (Work z.id)) z.queue) (λ z. AllByRecursion (IsValidPacket m (Work z.id)) z.queue) (λ z all. kept (Work z.id) z.queue all) l.tasks v.queues.tasks

      queued : (a : ℕ) → is_queued a m ≡ is_queued a l
      queued a =
          is_queued-same a l m
          (work_packets-out a before u after
          ∙ ap (λ z. is_on_queue a t.queue || is_on_queue a (work_packets z)) (sym whole)
          ∙ sym (work_packets-out a front t back)
          ∙ ap (λ z. is_on_queue a (work_packets z)) (sym is))
          refl refl refl refl

      count : (a : ℕ) → owners a (owned m) + 0 ≡ owners a (owned l) + 0
      count a =
          owned-tasks a l 0 0 (before ++ u ∷ after)
          (ap (λ n. n + 0)
          (owners-task_between a l.version (highest_id_of l.version) before u after
          ∙ ap (λ z. listed z + owners a (task_words l.version t 0)) (sym whole)
          ∙ sym (owners-task_between a l.version (highest_id_of l.version) front t back)
          ∙ ap listed (sym is)))
        where
          listed : List Task → ℕ
          listed zs = owners a (listed_words task_address task_id (task_words l.version) (highest_id_of l.version) zs)

  pub moved-valid : AllByRecursion (λ w. w.priority ≢ priority) (front ++ back) → AreValid (with_moved_task priority t (front ++ back) l)
  moved-valid unused =
      let r : IsPlace (λ w. nat_lt priority w.priority) (λ _. 0) 0 u (front ++ back) = place (λ w. nat_lt priority w.priority) (λ _. 0) 0 u (front ++ back) in
      subst (λ ts. AreValid (with_tasks ts l)) (sym r.list)
      (moved-between r.front r.back r.whole
      (subst PrioritiesFall r.list (falls-insert u (front ++ back) (falls-beside front t back (subst PrioritiesFall is v.tasks.order)) unused)))

-- the law of a task that moves
pub moved_task-valid : (l : Lists) (front back : List Task) (t : Task) (priority : ℕ) → AreValid l → l.tasks ≡ front ++ t ∷ back → is_guest_id t.id ≡ true → 1 ≤ priority → priority ≤ 10000
    → AllByRecursion (λ u. u.priority ≢ priority) (front ++ back) → AreValid (with_moved_task priority t (front ++ back) l)
moved_task-valid l front back t priority v is guest low high unused = moved-valid l front t back priority v is guest low high unused
