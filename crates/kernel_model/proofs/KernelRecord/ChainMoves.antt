-- A guest comes into the chain, or goes out of it, and the lists stay valid.
use Rattle.std.proofs.Common.{◌≡◌, ◌≢◌, ℕ, ◌+◌, ◌<◌, ◌≤◌, List, [], ◌∷◌, ◌++◌, map, eqb, nat_lt, Bool, true, false, inl, inr, refl, sym, ap, ◌∙◌, subst, arith}
use Rattle.std.proofs.lemmas.Bool.{and_from, eqb-false, leb-false, false≢true}
use Rattle.std.specs.List.{AllByRecursion, range_with_len}
use Rattle.word_store.specs.Count.{IsApart, times}
use Rattle.word_store.proofs.Counts.{IsApart-cons, range-apart, range-high, range-low}
use Rattle.kernel_lists.proofs.LinkedList.Places.{IsPlace, place}
use Rattle.kernel_lists.specs.OwnedWords.Owned.{owners}
use Rattle.kernel_lists.specs.PacketQueue.QueueWords.{QueuedPacket}
use Rattle.kernel_lists.specs.TaskBlock.ChainWords.{listed_words}
use Rattle.kernel_model.specs.KernelRecord.Changes.{AreUnowned, HasNoPacketsOut, with_new_task, with_tasks}
use Rattle.kernel_model.specs.KernelRecord.Lists.{Lists, has_task, is_queued}
use Rattle.kernel_model.specs.KernelRecord.Owned.{owned, tasks_words}
use Rattle.kernel_model.specs.KernelRecord.Residents.{fault_packet, key_packet}
use Rattle.kernel_model.specs.KernelRecord.Task.{Task, is_guest_id, task_address, task_id, task_words}
use Rattle.kernel_model.specs.KernelRecord.ValidLists.{AreValid}
use Rattle.kernel_model.specs.KernelRecord.ValidQueues.{IsFaultPacket, IsKeyPacket, IsValidPacket, Place}
use Rattle.kernel_model.specs.KernelRecord.ValidQueues.Place.{Clock, Keyboard, Output, Pending, Work}
use Rattle.kernel_model.specs.KernelRecord.ValidTasks.{AreValidCoroutines, IsTask, PrioritiesFall}
use Rattle.kernel_model.specs.KernelRecord.Versions.{head_words_of, highest_id_of}
use Rattle.kernel_model.proofs.KernelRecord.AllThings.{all-beside, all-between, all-from_both, all-here, any-found, any-more}
use Rattle.kernel_model.proofs.KernelRecord.ChainChanges.{chain-valid}
use Rattle.kernel_model.proofs.KernelRecord.ChainRules.{falls-beside, falls-insert, guest-other, has_task-other, none-times_id, times-id}
use Rattle.kernel_model.proofs.KernelRecord.DataInside.{HasBlock-inside}
use Rattle.kernel_model.proofs.KernelRecord.OwnerCounts.{owned-tasks, owners-task_between, owns-more, owns-without}
use Rattle.kernel_model.proofs.KernelRecord.QueuedPackets.{fault-kept, is_on_queue, is_queued-same, key-kept, work_packets, work_packets-between}
use Rattle.kernel_model.proofs.KernelRecord.RulesKept.{HasSender-kept, IsValidPacket-kept, IsValidPacket-more}
use Rattle.kernel_model.proofs.KernelRecord.TaskCounts.{owners-new_task}
use Rattle.kernel_model.proofs.KernelRecord.EachMember.{all-each}

-- ---- a guest comes in

module _ (l : Lists) (t : Task) (v : AreValid l) (task : IsTask l t) (guest : is_guest_id t.id ≡ true) (queue : t.queue ≡ []) where
  new-between : (front back : List Task) → l.tasks ≡ front ++ back → PrioritiesFall (front ++ t ∷ back) → has_task t.id l.tasks ≡ false → t.coroutines.list ≡ [] → t.coroutines.active ≡ []
      → AreUnowned l t.address (t.address + head_words_of l.version) → AreValid (with_tasks (front ++ t ∷ back) l)
  new-between front back is order absent list active unowned =
      chain-valid l (front ++ t ∷ back) l.key l.fault_packet_free v
      (record {
        residents = λ i resident. has_task-other i front t back (guest-other t.id i guest resident) ∙ ap (has_task i) (sym is);
        each = all-between (IsTask l) front t back task (subst (AllByRecursion (IsTask l)) is v.tasks.each);
        distinct = λ a. subst (λ n. n ≤ 1) (sym (times-id a front t back)) (IsApart-cons t.id (map task_id (front ++ back)) none apart a);
        order = order;
        coroutines = all-between (AreValidCoroutines l) front t back coroutines (subst (AllByRecursion (AreValidCoroutines l)) is v.coroutines);
        work =
            all-between (λ z. AllByRecursion (IsValidPacket m (Work z.id)) z.queue) front t back (subst (AllByRecursion (IsValidPacket m (Work t.id))) (sym queue) tt)
            (subst (AllByRecursion (λ z. AllByRecursion (IsValidPacket m (Work z.id)) z.queue)) is
            (all-each (λ z. AllByRecursion (IsValidPacket l (Work z.id)) z.queue) (λ z. AllByRecursion (IsValidPacket m (Work z.id)) z.queue) (λ z all. kept (Work z.id) z.queue all) l.tasks v.queues.tasks));
        clock = kept Clock l.clock v.queues.clock;
        keyboard = kept Keyboard l.keyboard v.queues.keyboard;
        output = kept Output l.output v.queues.output;
        pending = kept Pending l.pending v.queues.pending;
        key = key-kept l m v.queues.key (λ _. same key_packet);
        fault = fault-kept l m v.queues.fault (λ _. same fault_packet);
        running = elim v.queues.running [ inl e ↦ inl e | inr some ↦ inr (keeps l.running some) ];
        owns = owns-more l m (task_words l.version t 0) refl count once fresh v.owns;
      })
    where
      m : Lists
      m = with_tasks (front ++ t ∷ back) l

      none : times t.id (map task_id (front ++ back)) ≡ 0
      none = subst (λ z. times t.id (map task_id z) ≡ 0) is (none-times_id t.id l.tasks absent)

      apart : IsApart (map task_id (front ++ back))
      apart = subst (λ z. IsApart (map task_id z)) is v.tasks.distinct

      coroutines : AreValidCoroutines l t
      coroutines = record { each = subst (AllByRecursion _) (sym list) tt; members = subst (AllByRecursion _) (sym active) tt; distinct = subst IsApart (sym active) (λ a. omega arith) }

      keeps : (i : ℕ) → has_task i l.tasks ≡ true → has_task i (front ++ t ∷ back) ≡ true
      keeps i some = any-more (λ z. eqb z.id i) front t back (subst (λ z. has_task i z ≡ true) is some)

      reporter : has_task 2 (front ++ t ∷ back) ≡ has_task 2 l.tasks
      reporter = has_task-other 2 front t back (guest-other t.id 2 guest refl) ∙ ap (has_task 2) (sym is)

      kept : (at : Place) (ps : List QueuedPacket) → AllByRecursion (IsValidPacket l at) ps → AllByRecursion (IsValidPacket m at) ps
      kept at ps all = all-each (IsValidPacket l at) (IsValidPacket m at) (λ p h. IsValidPacket-more l m at p refl reporter (λ d. d) keeps h) ps all

      same : (a : ℕ) → is_queued a m ≡ is_queued a l
      same a = is_queued-same a l m (work_packets-between a front t back (ap (is_on_queue a) queue) ∙ ap (λ z. is_on_queue a (work_packets z)) (sym is)) refl refl refl refl

      count : (a : ℕ) → owners a (owned m) ≡ owners a (owned l) + owners a (task_words l.version t 0)
      count a =
          plain (owners a (owned m)) (owners a (owned l)) (owners a (task_words l.version t 0))
          (owned-tasks a l 0 (owners a (task_words l.version t 0)) (front ++ t ∷ back)
          (added (owners a (tasks_words m)) (owners a (tasks_words l)) (listed (front ++ back)) (owners a (task_words l.version t 0)) (owners-task_between a l.version (highest_id_of l.version) front t back) (ap listed is)))
        where
          listed : List Task → ℕ
          listed zs = owners a (listed_words task_address task_id (task_words l.version) (highest_id_of l.version) zs)

          added : (x y b n : ℕ) → x ≡ b + n → y ≡ b → x + 0 ≡ y + n
          added x y b n e f = omega arith

          plain : (x y n : ℕ) → x + 0 ≡ y + n → x ≡ y + n
          plain x y n e = omega arith

      spans : (a : ℕ) → owners a (task_words l.version t 0) ≡ times a (range_with_len t.address (head_words_of l.version))
      spans a = owners-new_task a l.version t guest queue list

      once : (a : ℕ) → owners a (task_words l.version t 0) ≤ 1
      once a = subst (λ n. n ≤ 1) (sym (spans a)) (range-apart t.address (head_words_of l.version) a)

      fresh : (a : ℕ) → 0 < owners a (task_words l.version t 0) → (owners a (owned l) ≡ 0) × (a < l.size)
      fresh a some =
          let there : 0 < times a (range_with_len t.address (head_words_of l.version)) = subst (λ n. 0 < n) (spans a) some in
          let high : a < t.address + head_words_of l.version = range-high a t.address (head_words_of l.version) there in
          let within : a ≤ t.address + (head_words_of l.version + 1001 + t.highest) = plain (head_words_of l.version) high in
          (unowned a (range-low a t.address (head_words_of l.version) there) high, HasBlock-inside l t.address (head_words_of l.version + 1001 + t.highest) a v.blocks (task.guest guest).block within)
        where
          plain : (h : ℕ) → a < t.address + h → a ≤ t.address + (h + 1001 + t.highest)
          plain h below = omega arith

pub new_task-valid : (l : Lists) (t : Task) → AreValid l → IsTask l t → is_guest_id t.id ≡ true → has_task t.id l.tasks ≡ false → AllByRecursion (λ u. u.priority ≢ t.priority) l.tasks
    → t.queue ≡ [] → t.coroutines.list ≡ [] → t.coroutines.active ≡ [] → AreUnowned l t.address (t.address + head_words_of l.version) → AreValid (with_new_task t l)
new_task-valid l t v task guest absent differ queue list active unowned =
    let r : IsPlace above (λ _. 0) 0 t l.tasks = place above (λ _. 0) 0 t l.tasks in
    subst (λ z. AreValid (with_tasks z l)) (sym r.list)
    (new-between l t v task guest queue r.front r.back r.whole (subst PrioritiesFall r.list (falls-insert t l.tasks v.tasks.order differ)) absent list active unowned)
  where
    above : Task → Bool
    above = λ u. nat_lt t.priority u.priority

-- ---- a guest goes out

-- who is left
module _ (l : Lists) (front back : List Task) (t : Task) (v : AreValid l) (is : l.tasks ≡ front ++ t ∷ back) (guest : is_guest_id t.id ≡ true) where
  keeps-others : (i : ℕ) → i ≢ t.id → has_task i l.tasks ≡ true → has_task i (front ++ back) ≡ true
  keeps-others i ne some = sym (has_task-other i front t back (λ e. ne (sym e))) ∙ subst (λ z. has_task i z ≡ true) is some

  residents-same : (i : ℕ) → is_guest_id i ≡ false → has_task i (front ++ back) ≡ has_task i l.tasks
  residents-same i resident = sym (has_task-other i front t back (guest-other t.id i guest resident)) ∙ ap (has_task i) (sym is)

  -- a packet of another sender stays where it is
  stays : (at : Place) (p : QueuedPacket) → IsValidPacket l at p → eqb p.sender t.id ≡ false → IsValidPacket (with_tasks (front ++ back) l) at p
  stays at p h other =
      let ne : p.sender ≢ t.id = eqb-false p.sender t.id other in
      IsValidPacket-kept l (with_tasks (front ++ back) l) at p refl (residents-same 2 refl) (λ d. d)
      (HasSender-kept l (with_tasks (front ++ back) l) at p.sender (keeps-others p.sender ne)) h

  -- and so does any packet of a guest
  stays-with_guest : (z : ℕ) (p : QueuedPacket) → is_guest_id z ≡ true → IsValidPacket l (Work z) p → IsValidPacket (with_tasks (front ++ back) l) (Work z) p
  stays-with_guest z p high h =
      IsValidPacket-kept l (with_tasks (front ++ back) l) (Work z) p refl (residents-same 2 refl) (λ d. d)
      (λ _ resident. absurd (false≢true (sym resident ∙ high))) h

  stay : (at : Place) (ps : List QueuedPacket) → AllByRecursion (IsValidPacket l at) ps → AllByRecursion (λ p. eqb p.sender t.id ≡ false) ps → AllByRecursion (IsValidPacket (with_tasks (front ++ back) l) at) ps
  stay at ps all others = all-from_both (IsValidPacket l at) (λ p. eqb p.sender t.id ≡ false) (IsValidPacket (with_tasks (front ++ back) l) at) (stays at) ps all others

  work-stays : (z : Task) → AllByRecursion (IsValidPacket l (Work z.id)) z.queue → (z.id < 5 → AllByRecursion (λ p. eqb p.sender t.id ≡ false) z.queue) → AllByRecursion (IsValidPacket (with_tasks (front ++ back) l) (Work z.id)) z.queue
  work-stays z all others = on (is_guest_id z.id) refl
    where
      on : (b : Bool) → is_guest_id z.id ≡ b → AllByRecursion (IsValidPacket (with_tasks (front ++ back) l) (Work z.id)) z.queue
      on true high = all-each (IsValidPacket l (Work z.id)) (IsValidPacket (with_tasks (front ++ back) l) (Work z.id)) (λ p h. stays-with_guest z.id p high h) z.queue all
      on false low = stay (Work z.id) z.queue all (others (leb-false 5 z.id low))

  -- a guest's queue has none of the residents' packets
  valid-queue : AllByRecursion (IsValidPacket l (Work t.id)) t.queue
  valid-queue = all-here (λ z. AllByRecursion (IsValidPacket l (Work z.id)) z.queue) front t back (subst (AllByRecursion (λ z. AllByRecursion (IsValidPacket l (Work z.id)) z.queue)) is v.queues.tasks)

  no_key : l.residents ≡ true → is_on_queue key_packet t.queue ≡ false
  no_key r = on (is_on_queue key_packet t.queue) refl
    where
      on : (b : Bool) → is_on_queue key_packet t.queue ≡ b → b ≡ false
      on false e = refl
      on true e =
          let p = any-found (λ q. eqb q.address key_packet) (IsValidPacket l (Work t.id)) t.queue e valid-queue in
          let k : IsKeyPacket (Work t.id) p.0 = p.2.key (and_from l.residents _ r p.1) in
          absurd (guest-other t.id 3 guest refl k.place.0)

  no_fault : has_task 2 l.tasks ≡ true → is_on_queue fault_packet t.queue ≡ false
  no_fault r = on (is_on_queue fault_packet t.queue) refl
    where
      number : Work t.id ≡ Work 2 → t.id ≡ 2
      number e = cc

      on : (b : Bool) → is_on_queue fault_packet t.queue ≡ b → b ≡ false
      on false e = refl
      on true e =
          let p = any-found (λ q. eqb q.address fault_packet) (IsValidPacket l (Work t.id)) t.queue e valid-queue in
          let k : IsFaultPacket (Work t.id) p.0 = p.2.fault (and_from (has_task 2 l.tasks) _ r p.1) in
          absurd (guest-other t.id 2 guest refl (number k.place))

  same-queued : (a : ℕ) → is_on_queue a t.queue ≡ false → is_queued a (with_tasks (front ++ back) l) ≡ is_queued a l
  same-queued a none =
      is_queued-same a l (with_tasks (front ++ back) l) (sym (work_packets-between a front t back none) ∙ ap (λ z. is_on_queue a (work_packets z)) (sym is)) refl refl refl refl

  -- what it owned is taken away
  count : (a : ℕ) → owners a (owned (with_tasks (front ++ back) l)) + owners a (task_words l.version t 0) ≡ owners a (owned l) + 0
  count a =
      owned-tasks a l (owners a (task_words l.version t 0)) 0 (front ++ back)
      (removed (listed (front ++ back)) (owners a (tasks_words l)) (listed (front ++ t ∷ back)) (owners a (task_words l.version t 0)) (owners-task_between a l.version (highest_id_of l.version) front t back) (ap listed is))
    where
      listed : List Task → ℕ
      listed zs = owners a (listed_words task_address task_id (task_words l.version) (highest_id_of l.version) zs)

      removed : (x y b n : ℕ) → b ≡ x + n → y ≡ b → x + n ≡ y + 0
      removed x y b n e f = omega arith

  pub gone_task-unowned : (a : ℕ) → 0 < owners a (task_words l.version t 0) → owners a (owned (with_tasks (front ++ back) l)) ≡ 0
  gone_task-unowned a some = plain (owners a (owned (with_tasks (front ++ back) l))) (owners a (owned l)) (owners a (task_words l.version t 0)) (count a) (v.owns.apart a) some
    where
      plain : (x y n : ℕ) → x + n ≡ y + 0 → y ≤ 1 → 0 < n → x ≡ 0
      plain x y n e once some = omega arith

  pub gone_task-valid : l.running ≢ t.id → HasNoPacketsOut l t.id → AreValid (with_tasks (front ++ back) l)
  gone_task-valid idle out =
      chain-valid l (front ++ back) l.key l.fault_packet_free v
      (record {
        residents = residents-same;
        each = all-beside (IsTask l) front t back (subst (AllByRecursion (IsTask l)) is v.tasks.each);
        distinct = λ a. fewer_ids a;
        order = falls-beside front t back (subst PrioritiesFall is v.tasks.order);
        coroutines = all-beside (AreValidCoroutines l) front t back (subst (AllByRecursion (AreValidCoroutines l)) is v.coroutines);
        work =
            all-beside (λ z. AllByRecursion (IsValidPacket m (Work z.id)) z.queue) front t back
            (subst (AllByRecursion (λ z. AllByRecursion (IsValidPacket m (Work z.id)) z.queue)) is
            (all-from_both (λ z. AllByRecursion (IsValidPacket l (Work z.id)) z.queue) (λ z. z.id < 5 → AllByRecursion (λ p. eqb p.sender t.id ≡ false) z.queue)
            (λ z. AllByRecursion (IsValidPacket m (Work z.id)) z.queue) work-stays l.tasks v.queues.tasks out.tasks));
        clock = stay Clock l.clock v.queues.clock out.clock;
        keyboard = stay Keyboard l.keyboard v.queues.keyboard out.keyboard;
        output = stay Output l.output v.queues.output out.output;
        pending = stay Pending l.pending v.queues.pending out.pending;
        key = key-kept l m v.queues.key (λ r. same-queued key_packet (no_key r));
        fault = fault-kept l m v.queues.fault (λ r. same-queued fault_packet (no_fault r));
        running = elim v.queues.running [ inl none ↦ inl none | inr some ↦ inr (keeps-others l.running idle some) ];
        owns = owns-without l m (λ a. owners a (task_words l.version t 0)) refl count v.owns;
      })
    where
      m : Lists
      m = with_tasks (front ++ back) l

      fewer_ids : (a : ℕ) → times a (map task_id (front ++ back)) ≤ 1
      fewer_ids a = omega (arith, times-id a front t back, subst (λ z. times a (map task_id z) ≤ 1) is (v.tasks.distinct a))
