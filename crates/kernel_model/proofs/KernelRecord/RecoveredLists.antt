-- Valid lists are what a store that holds their words says.
use Rattle.std.proofs.Common.{◌≡◌, ◌⊎◌, inl, inr, ℕ, ◌+◌, ◌<◌, ◌≤◌, ◌&&◌, ◌||◌, ◌++◌, List, [], ◌∷◌, length, map, get_or, eqb, leb, not, cond, Bool, true, false, Option, Some, None, refl, sym, ap, ◌∙◌, subst, arith}
use Rattle.std.specs.Prelude.{is_some}
use Rattle.std.specs.List.{AllByRecursion, list_any}
use Rattle.std.proofs.lemmas.Bool.{and_parts, eq-eqb, eqb-true, false≢true, leb-true, ne_eqb, not-false}
use Rattle.kernel_lists.specs.OwnedWords.Owned.{Holds, Pairs}
use Rattle.kernel_lists.proofs.OwnedWords.OwnedWords.{Holds-left, Holds-right}
use Rattle.kernel_lists.specs.PacketQueue.Queue.{no_queue}
use Rattle.kernel_lists.specs.PacketQueue.QueueWords.{HeldQueue, queue_words}
use Rattle.kernel_model.specs.KernelRecord.Ranges.{most_words}
use Rattle.kernel_lists.specs.TaskBlock.HeldTasks.{address_with}
use Rattle.kernel_lists.specs.TaskBlock.TaskChain.{id_in, tasks_in}
use Rattle.kernel_lists.proofs.TaskBlock.HeldTaskBlocks.{numbers}
use Rattle.kernel_lists.specs.Coroutines.CoroutineExchanges.{HoldsCoroutines}
use Rattle.kernel_model.specs.KernelRecord.Lists.{Lists, address_of_task, has_task, is_queued}
use Rattle.kernel_model.specs.KernelRecord.Owned.{clock_head, keyboard_head, output_head, owned}
use Rattle.kernel_model.specs.KernelRecord.ReadsLists.{ReadsLists}
use Rattle.kernel_model.specs.KernelRecord.Recovered.{has_task_in, is_free, key_in, lists_in, number_of, packets_at, pending_in, task_in}
use Rattle.kernel_model.specs.KernelRecord.KernelRanges.{has_residents}
use Rattle.kernel_model.specs.KernelRecord.Residents.{fault_packet, fault_packet_words, key_arguments, key_packet, key_words, pending_head, resident_words}
use Rattle.kernel_model.specs.KernelRecord.Task.{Task, queue_head, task_address, task_id, task_words}
use Rattle.kernel_model.specs.KernelRecord.ValidLists.{AreValid}
use Rattle.kernel_model.specs.KernelRecord.ValidTasks.{IsTask}
use Rattle.kernel_model.proofs.KernelRecord.EachMember.{all-both, all-each, held-each, map-back}
use Rattle.kernel_model.proofs.KernelRecord.OwnedParts.{HoldsParts, holds-parts}
use Rattle.kernel_model.proofs.KernelRecord.QueuedLinks.{queued-link}
use Rattle.kernel_model.proofs.KernelRecord.Reading.{read-lists, resident_rest}
use Rattle.kernel_model.proofs.KernelRecord.RecoveredParts.{modules-back, queue-back}
use Rattle.kernel_model.proofs.KernelRecord.RecoveredTasks.{task-back}
use Rattle.kernel_model.proofs.KernelRecord.RootCounts.{RootWords, owners-nodes, root-held}
use Rattle.kernel_model.proofs.KernelRecord.TaskKind.{are_tasks}
use Rattle.kernel_model.proofs.KernelRecord.TaskPlaces.{TaskPlace, task-places, task-some}

-- ---- numbers

-- a task that is found by its number has it
found-number : (s : List ℕ) (ts : List Task) (i : ℕ) → AllByRecursion (λ t. (0 < t.address) × (id_in s t.address ≡ t.id)) ts → has_task i ts ≡ true
    → number_of s (address_with task_address task_id ts i) ≡ i
found-number s [] i all some = cc
found-number s (t ∷ ts) i all some = on (eqb t.id i) refl some (found-number s ts i all.1)
  where
    on : (b : Bool) → eqb t.id i ≡ b → (b || has_task i ts) ≡ true → (has_task i ts ≡ true → number_of s (address_with task_address task_id ts i) ≡ i)
        → number_of s (cond b t.address (address_with task_address task_id ts i)) ≡ i
    on true here some more = ap (λ b. cond b 0 (id_in s t.address)) (ne_eqb t.address 0 (λ e. omega (arith, e, all.0.0))) ∙ all.0.1 ∙ eqb-true t.id i here
    on false other some more = more some

-- and none has the number 0
no-number : (s : List ℕ) (ts : List Task) → AllByRecursion (λ t. 1 ≤ t.id) ts → number_of s (address_with task_address task_id ts 0) ≡ 0
no-number s ts all = ap (number_of s) (none ts all)
  where
    none : (ts : List Task) → AllByRecursion (λ t. 1 ≤ t.id) ts → address_with task_address task_id ts 0 ≡ 0
    none [] all = refl
    none (t ∷ ts) all = ap (λ b. cond b t.address (address_with task_address task_id ts 0)) (ne_eqb t.id 0 (λ e. omega (arith, e, all.0))) ∙ none ts all.1

any-number : (s : List ℕ) (i : ℕ) (ts : List Task) → AllByRecursion (λ t. id_in s t.address ≡ t.id) ts → list_any (λ a. eqb (id_in s a) i) (map task_address ts) ≡ has_task i ts
any-number s i [] all = refl
any-number s i (t ∷ ts) all = λ j. eqb (all.0 j) i || any-number s i ts all.1 j

-- a store has no word at the address that marks a packet on no queue
pub size-low : (l : Lists) → AreValid l → l.size < no_queue
size-low l v =
    let le : leb l.size (most_words l.version) ≡ true = (and_parts (leb 1024 l.size) (leb l.size (most_words l.version)) (and_parts (leb 1024 l.size && leb l.size (most_words l.version)) _ v.numbers.size).0).1 in
    let most : most_words l.version ≤ 4194304 = elim (eqb l.version 1) as (λ b. cond b 262144 4194304 ≤ 4194304) [ true ↦ omega arith | false ↦ omega arith ] in
    omega (arith, leb-true l.size (most_words l.version) le, most)

module _ (s : List ℕ) (l : Lists) (v : AreValid l) (size : length s ≡ l.size) (h : Holds s (owned l)) where
  parts : HoldsParts s l
  parts = holds-parts s l h

  root : RootWords s l
  root = root-held s l (address_of_task l l.running) parts.root

  reads : ReadsLists s l
  reads = read-lists s l v size h

  residents-back : has_residents s ≡ l.residents
  residents-back = ap (λ w. not (eqb w 0)) root.numbers.1.1.1.1.0 ∙ on l.residents
    where
      on : (b : Bool) → not (eqb (cond b 201 0) 0) ≡ b
      on true = refl
      on false = refl

  ids : AllByRecursion (λ t. id_in s t.address ≡ t.id) l.tasks
  ids = numbers task_address task_id (task_words l.version) (are_tasks l.version) s l.tasks 0 parts.chain.1

  running-back : number_of s (get_or s 102 0) ≡ l.running
  running-back = ap (number_of s) parts.root.1.0 ∙ on v.queues.running
    where
      places : AllByRecursion (TaskPlace l) l.tasks
      places = task-places l v

      on : (l.running ≡ 0) ⊎ (has_task l.running l.tasks ≡ true) → number_of s (address_of_task l l.running) ≡ l.running
      on (inl none) =
          ap (λ i. number_of s (address_with task_address task_id l.tasks i)) none
          ∙ no-number s l.tasks (all-each (TaskPlace l) (λ t. 1 ≤ t.id) (λ t p. p.low_id) l.tasks places) ∙ sym none
      on (inr some) =
          found-number s l.tasks l.running
          (all-both (λ t. 0 < t.address) (λ t. id_in s t.address ≡ t.id) l.tasks (all-each (TaskPlace l) (λ t. 0 < t.address) (task-some l) l.tasks places) ids) some

  tasks-back : map (task_in s) (tasks_in s) ≡ l.tasks
  tasks-back =
      ap (map (task_in s)) reads.tasks.chain
      ∙ map-back (task_in s) task_address l.tasks
      (held-each task_address (task_words l.version) s (λ t. IsTask l t × (HeldQueue s (queue_head t.address) t.queue × HoldsCoroutines s t.address t.coroutines)) (λ t. task_in s t.address ≡ t)
      (λ t n own apart inside all. task-back s l t n v root.numbers.1.1.1.0 own inside all.0 all.1.0 all.1.1) l.tasks 0 parts.chain.1
      (λ a. omega (arith, v.owns.apart a, owners-nodes a l)) (λ a some. omega (arith, size, v.owns.inside a (omega (arith, some, owners-nodes a l))))
      (all-both (IsTask l) (λ t. HeldQueue s (queue_head t.address) t.queue × HoldsCoroutines s t.address t.coroutines) l.tasks v.tasks.each
      (all-both (λ t. HeldQueue s (queue_head t.address) t.queue) (λ t. HoldsCoroutines s t.address t.coroutines) l.tasks reads.work reads.coroutines)))

  pending-back : pending_in s ≡ l.pending
  pending-back = ap (λ b. cond b (packets_at s pending_head) []) residents-back ∙ on l.residents refl
    where
      on : (b : Bool) → l.residents ≡ b → cond b (packets_at s pending_head) [] ≡ l.pending
      on true there = queue-back s pending_head l.pending (reads.pending there)
      on false none = sym (v.queues.no_console none)

  -- ---- the packets of the residents

  resident-words : l.residents ≡ true → Holds s (resident_rest l)
  resident-words there =
      let queue : Pairs = queue_words pending_head l.pending in
      let whole : resident_words l ≡ queue ++ resident_rest l = ap (λ b. cond b (queue ++ resident_rest l) []) there in
      Holds-right s queue (resident_rest l) (subst (Holds s) whole parts.residents)

  -- a packet of the residents that is queued is not free
  queued-free : (p : ℕ) → l.residents ≡ true → is_queued p l ≡ true → eqb (get_or s p 0) no_queue ≡ false
  queued-free p there some = ne_eqb (get_or s p 0) no_queue (λ e. omega (arith, e, queued-link s l p reads there some, size, size-low l v))

  key-back : key_in s ≡ l.key
  key-back = ap (λ b. cond (b && eqb (get_or s key_packet 0) no_queue) (Some (get_or s (key_packet + 3) 0)) None) residents-back ∙ on l.residents refl l.key refl
    where
      on : (b : Bool) → l.residents ≡ b → (k : Option ℕ) → l.key ≡ k → cond (b && eqb (get_or s key_packet 0) no_queue) (Some (get_or s (key_packet + 3) 0)) None ≡ k
      on false none None e = refl
      on false none (Some r) e = absurd (false≢true (sym (ap (λ b. b && not (is_queued key_packet l)) none) ∙ sym v.queues.key ∙ ap is_some e))
      on true there (Some r) e =
          let words = Holds-left s (key_words (Some r)) (key_arguments ++ fault_packet_words l.fault_packet_free) (subst (λ k. Holds s (key_words k ++ (key_arguments ++ fault_packet_words l.fault_packet_free))) e (resident-words there)) in
          ap (λ b. cond b (Some (get_or s (key_packet + 3) 0)) None) (eq-eqb (get_or s key_packet 0) no_queue words.0) ∙ ap (λ w. Some w) words.1.1.1.0
      on true there None e =
          let queued : is_queued key_packet l ≡ true = not-false (is_queued key_packet l) (sym (ap (λ b. b && not (is_queued key_packet l)) there) ∙ sym v.queues.key ∙ ap is_some e) in
          ap (λ b. cond b (Some (get_or s (key_packet + 3) 0)) None) (queued-free key_packet there queued)

  fault-back : (has_task_in s 2 && is_free s fault_packet) ≡ l.fault_packet_free
  fault-back = (λ i. reporter i && (residents-back i && eqb (get_or s fault_packet 0) no_queue)) ∙ on (has_task 2 l.tasks) refl l.fault_packet_free refl
    where
      reporter : has_task_in s 2 ≡ has_task 2 l.tasks
      reporter = ap (list_any (λ a. eqb (id_in s a) 2)) reads.tasks.chain ∙ any-number s 2 l.tasks ids

      on : (b : Bool) → has_task 2 l.tasks ≡ b → (f : Bool) → l.fault_packet_free ≡ f → (b && (l.residents && eqb (get_or s fault_packet 0) no_queue)) ≡ f
      on false none false e = refl
      on false none true e = absurd (false≢true (sym (ap (λ b. b && not (is_queued fault_packet l)) none) ∙ sym v.queues.fault ∙ e))
      on true some true e =
          let there : l.residents ≡ true = v.tasks.reporter some in
          let others = Holds-right s (key_words l.key) (key_arguments ++ fault_packet_words l.fault_packet_free) (resident-words there) in
          let words = subst (λ f. Holds s (fault_packet_words f)) e (Holds-right s key_arguments (fault_packet_words l.fault_packet_free) others) in
          ap (λ b. b && eqb (get_or s fault_packet 0) no_queue) there ∙ eq-eqb (get_or s fault_packet 0) no_queue words.0
      on true some false e =
          let there : l.residents ≡ true = v.tasks.reporter some in
          let queued : is_queued fault_packet l ≡ true = not-false (is_queued fault_packet l) (sym (ap (λ b. b && not (is_queued fault_packet l)) some) ∙ sym v.queues.fault ∙ e) in
          ap (λ b. b && eqb (get_or s fault_packet 0) no_queue) there ∙ queued-free fault_packet there queued

  pub lists-back : lists_in s ≡ l
  unfolding lists_in
  lists-back =
      let modules = modules-back s l.modules reads.modules in
      let clock = queue-back s clock_head l.clock reads.clock in
      let keyboard = queue-back s keyboard_head l.keyboard reads.keyboard in
      let output = queue-back s output_head l.output reads.output in
      let whole : ◌≡◌ {A = Lists} (lists_in s) l = λ i. record {
        size = root.numbers.1.0 i;
        period = root.numbers.1.1.0 i;
        tick = root.numbers.0 i;
        version = root.numbers.1.1.1.0 i;
        residents = residents-back i;
        running = running-back i;
        blocks = reads.blocks i;
        modules = modules i;
        tasks = tasks-back i;
        clock = clock i;
        keyboard = keyboard i;
        output = output i;
        pending = pending-back i;
        key = key-back i;
        fault_packet_free = fault-back i;
      } in
      whole
