-- One task of the chain changes, with its number and its priority.
use Rattle.std.proofs.Common.{◌≡◌, ℕ, ◌+◌, List, ◌∷◌, ◌++◌, map, is_some, not, ◌&&◌, Bool, Option, inl, inr, refl, sym, ap, ◌∙◌, subst, arith}
use Rattle.std.specs.List.{AllByRecursion}
use Rattle.word_store.specs.Count.{IsApart}
use Rattle.kernel_lists.specs.OwnedWords.Owned.{owners}
use Rattle.kernel_lists.specs.PacketQueue.QueueWords.{QueuedPacket}
use Rattle.kernel_lists.specs.TaskBlock.ChainWords.{listed_words}
use Rattle.kernel_model.specs.KernelRecord.Changes.{SameTask, with_tasks}
use Rattle.kernel_model.specs.KernelRecord.Lists.{Lists, has_task, is_queued}
use Rattle.kernel_model.specs.KernelRecord.Owned.{OwnsApart, owned, tasks_words}
use Rattle.kernel_model.specs.KernelRecord.Residents.{fault_packet, key_packet}
use Rattle.kernel_model.specs.KernelRecord.Task.{Task, task_address, task_id, task_words}
use Rattle.kernel_model.specs.KernelRecord.ValidLists.{AreValid}
use Rattle.kernel_model.specs.KernelRecord.ValidQueues.{IsValidPacket, Place}
use Rattle.kernel_model.specs.KernelRecord.ValidQueues.Place.{Clock, Keyboard, Output, Pending, Work}
use Rattle.kernel_model.specs.KernelRecord.ValidTasks.{AreValidCoroutines, IsTask, PrioritiesFall}
use Rattle.kernel_model.specs.KernelRecord.Versions.{highest_id_of}
use Rattle.kernel_model.proofs.KernelRecord.AllThings.{all-here, all-put, map-put}
use Rattle.kernel_model.proofs.KernelRecord.ChainChanges.{chain-valid, with_chain}
use Rattle.kernel_model.proofs.KernelRecord.ChainRules.{falls-same, has_task-same}
use Rattle.kernel_model.proofs.KernelRecord.OwnerCounts.{owned-tasks, owners-task_between, owns-without}
use Rattle.kernel_model.proofs.KernelRecord.QueuedPackets.{fault-kept, is_on_queue, is_queued-same, key-kept, work_packets, work_packets-put}
use Rattle.kernel_model.proofs.KernelRecord.RulesKept.{IsValidPacket-more}
use Rattle.kernel_model.proofs.KernelRecord.TaskCounts.{owners-same_task}
use Rattle.kernel_model.proofs.KernelRecord.EachMember.{all-each}

module _ (l : Lists) (front : List Task) (t u : Task) (back : List Task) (is : l.tasks ≡ front ++ t ∷ back) where
  -- what is owned changes by what the task owns
  pub owned-one_task : (a k n : ℕ) → owners a (task_words l.version u 0) + k ≡ owners a (task_words l.version t 0) + n → owners a (owned (with_tasks (front ++ u ∷ back) l)) + k ≡ owners a (owned l) + n
  owned-one_task a k n e =
      owned-tasks a l k n (front ++ u ∷ back)
      (beside (owners a (tasks_words (with_tasks (front ++ u ∷ back) l))) (owners a (tasks_words l)) (listed (front ++ back)) (owners a (task_words l.version u 0)) (owners a (task_words l.version t 0))
      (owners-task_between a l.version (highest_id_of l.version) front u back)
      (ap listed is ∙ owners-task_between a l.version (highest_id_of l.version) front t back)
      e)
    where
      listed : List Task → ℕ
      listed zs = owners a (listed_words task_address task_id (task_words l.version) (highest_id_of l.version) zs)

      beside : (x y b u t : ℕ) → x ≡ b + u → y ≡ b + t → u + k ≡ t + n → x + k ≡ y + n
      beside x y b u t p q r = omega arith

  -- which packets are queued changes by what is on its queue
  pub queued-one_task : (a : ℕ) → is_on_queue a u.queue ≡ is_on_queue a t.queue → is_queued a (with_tasks (front ++ u ∷ back) l) ≡ is_queued a l
  queued-one_task a e = is_queued-same a l (with_tasks (front ++ u ∷ back) l) (work_packets-put a front t u back e ∙ ap (λ z. is_on_queue a (work_packets z)) (sym is)) refl refl refl refl

  pub task-changed : (x : Option ℕ) (f : Bool) → AreValid l → u.id ≡ t.id → u.priority ≡ t.priority → IsTask l u → AreValidCoroutines l u → AllByRecursion (IsValidPacket l (Work u.id)) u.queue
      → is_some x ≡ (l.residents && not (is_queued key_packet (with_tasks (front ++ u ∷ back) l))) → f ≡ (has_task 2 l.tasks && not (is_queued fault_packet (with_tasks (front ++ u ∷ back) l)))
      → OwnsApart (with_chain (front ++ u ∷ back) x f l) → AreValid (with_chain (front ++ u ∷ back) x f l)
  task-changed x f v id priority task coroutines queue key fault owns =
      chain-valid l (front ++ u ∷ back) x f v
      (record {
        residents = λ i _. same i;
        each = all-put (IsTask l) front t back u task (subst (AllByRecursion (IsTask l)) is v.tasks.each);
        distinct = subst IsApart (sym (map-put task_id front t u back id)) (subst (λ z. IsApart (map task_id z)) is v.tasks.distinct);
        order = falls-same front t u back priority (subst PrioritiesFall is v.tasks.order);
        coroutines = all-put (AreValidCoroutines l) front t back u coroutines (subst (AllByRecursion (AreValidCoroutines l)) is v.coroutines);
        work =
            all-each (λ z. AllByRecursion (IsValidPacket l (Work z.id)) z.queue) (λ z. AllByRecursion (IsValidPacket m (Work z.id)) z.queue) (λ z all. queue-kept (Work z.id) z.queue all) (front ++ u ∷ back)
            (all-put (λ z. AllByRecursion (IsValidPacket l (Work z.id)) z.queue) front t back u queue (subst (AllByRecursion (λ z. AllByRecursion (IsValidPacket l (Work z.id)) z.queue)) is v.queues.tasks));
        clock = queue-kept Clock l.clock v.queues.clock;
        keyboard = queue-kept Keyboard l.keyboard v.queues.keyboard;
        output = queue-kept Output l.output v.queues.output;
        pending = queue-kept Pending l.pending v.queues.pending;
        key = key;
        fault = fault;
        running = elim v.queues.running [ inl none ↦ inl none | inr some ↦ inr (same l.running ∙ some) ];
        owns = owns;
      })
    where
      m : Lists
      m = with_chain (front ++ u ∷ back) x f l

      same : (i : ℕ) → has_task i (front ++ u ∷ back) ≡ has_task i l.tasks
      same i = has_task-same i front t u back id ∙ ap (has_task i) (sym is)

      queue-kept : (at : Place) (ps : List QueuedPacket) → AllByRecursion (IsValidPacket l at) ps → AllByRecursion (IsValidPacket m at) ps
      queue-kept at ps all = all-each (IsValidPacket l at) (IsValidPacket m at) (λ p h. IsValidPacket-more l m at p refl (same 2) (λ d. d) (λ i some. same i ∙ some) h) ps all

  -- where its queue stays
  pub task-same_queue : AreValid l → u.id ≡ t.id → u.priority ≡ t.priority → u.queue ≡ t.queue → IsTask l u → AreValidCoroutines l u
      → OwnsApart (with_tasks (front ++ u ∷ back) l) → AreValid (with_tasks (front ++ u ∷ back) l)
  task-same_queue v id priority same task coroutines owns =
      task-changed l.key l.fault_packet_free v id priority task coroutines queue
      (key-kept l (with_tasks (front ++ u ∷ back) l) v.queues.key (λ _. queued-one_task key_packet (ap (is_on_queue key_packet) same)))
      (fault-kept l (with_tasks (front ++ u ∷ back) l) v.queues.fault (λ _. queued-one_task fault_packet (ap (is_on_queue fault_packet) same))) owns
    where
      there : AllByRecursion (IsValidPacket l (Work t.id)) t.queue
      there = all-here (λ z. AllByRecursion (IsValidPacket l (Work z.id)) z.queue) front t back (subst (AllByRecursion (λ z. AllByRecursion (IsValidPacket l (Work z.id)) z.queue)) is v.queues.tasks)

      queue : AllByRecursion (IsValidPacket l (Work u.id)) u.queue
      queue = subst (AllByRecursion (IsValidPacket l (Work u.id))) (sym same) (subst (λ i. AllByRecursion (IsValidPacket l (Work i)) t.queue) (sym id) there)

-- the law of a task whose other words change
pub same_task-valid : (l : Lists) (front back : List Task) (t u : Task) → AreValid l → l.tasks ≡ front ++ t ∷ back → SameTask t u → IsTask l u → AreValidCoroutines l u → AreValid (with_tasks (front ++ u ∷ back) l)
same_task-valid l front back t u v is same task coroutines =
    task-same_queue l front t u back is v same.id same.priority same.queue task coroutines
    (owns-without l (with_tasks (front ++ u ∷ back) l) (λ _. 0) refl (λ a. owned-one_task l front t u back is a 0 0 (ap (λ n. n + 0) (owners-same_task a l.version t u same))) v.owns)
