-- A task whose words are in the store, and are nobody's, comes into the chain.
use Rattle.std.proofs.Common.{◌≡◌, ◌≢◌, ℕ, ◌+◌, ◌<◌, ◌≤◌, List, [], ◌∷◌, ◌++◌, length, map, cond, eqb, true, false, Option, Some, None, inl, inr, refl, sym, ap, ◌∙◌, subst, arith}
use Rattle.std.specs.List.{range_with_len}
use Rattle.std.proofs.lemmas.Bool.{cases_lt, eq-eqb, false≢true, ne_eqb}
use Rattle.word_store.specs.Count.{node_words, times, words_of}
use Rattle.word_store.proofs.Counts.{range-apart, range-high, range-low, times-append}
use Rattle.kernel_lists.proofs.LinkedList.MappedLists.{map-append}
use Rattle.kernel_lists.specs.OwnedWords.Exchange.{Exchange}
use Rattle.kernel_lists.specs.OwnedWords.LinkedWords.{first_of, linked_words}
use Rattle.kernel_lists.specs.OwnedWords.Owned.{Holds, Pairs, owners}
use Rattle.kernel_lists.specs.OwnedWords.Written.{IsWritten}
use Rattle.kernel_lists.proofs.OwnedWords.HeldLists.{held-count}
use Rattle.kernel_lists.proofs.OwnedWords.OwnedWords.{length-written}
use Rattle.kernel_lists.proofs.OwnedWords.WrittenWords.{writes-hold}
use Rattle.kernel_lists.specs.TaskBlock.ChainWords.{InsertExchange, absent_words, listed_words, present_words}
use Rattle.kernel_lists.specs.TaskBlock.HeldTasks.{address_with}
use Rattle.kernel_lists.specs.TaskBlock.Moves.{with_task as task_in}
use Rattle.kernel_lists.specs.TaskBlock.TaskChain.{HasTasks, IsNewTask, id_in, root_words as table_words, task_link, task_size, task_with, tasks_in}
use Rattle.kernel_lists.proofs.TaskBlock.ChainExchanges.{insert-exchange}
use Rattle.kernel_model.specs.KernelRecord.ChangedStore.{IsChanged}
use Rattle.kernel_model.specs.KernelRecord.Changes.{AreUnowned, with_new_task, with_tasks}
use Rattle.kernel_model.specs.KernelRecord.HoldsLists.{HoldsLists}
use Rattle.kernel_model.specs.KernelRecord.Lists.{Lists, address_of_task, has_task}
use Rattle.kernel_model.specs.KernelRecord.Owned.{owned}
use Rattle.kernel_model.specs.KernelRecord.ReadsLists.{ReadsLists}
use Rattle.kernel_model.specs.KernelRecord.Task.{Task, is_guest_id, other_words, task_address, task_id, task_priority, task_words}
use Rattle.kernel_model.specs.KernelRecord.ValidLists.{AreValid}
use Rattle.kernel_model.specs.KernelRecord.Versions.{head_words_of, highest_id_of}
use Rattle.kernel_model.proofs.KernelRecord.AllThings.{any-here}
use Rattle.kernel_model.proofs.KernelRecord.ChainRules.{none-times_id}
use Rattle.kernel_model.proofs.KernelRecord.OwnedParts.{holds-parts}
use Rattle.kernel_model.proofs.KernelRecord.OwnerCounts.{owners-task_between}
use Rattle.kernel_model.proofs.KernelRecord.RootCounts.{RootWords, head-low, owners-nodes, root-held}
use Rattle.kernel_model.proofs.KernelRecord.TaskCounts.{owners-new_task}
use Rattle.kernel_model.proofs.KernelRecord.TaskKind.{are_tasks}
use Rattle.kernel_calls.proofs.CallAnswers.FoundTask.{Finds, find-task, reads}
use Rattle.kernel_calls.proofs.TaskCalls.AroundChain.{address_with-out, around, around-count, around-exchange, listed, owned-around, owned-chain}

-- what is asked of the store and of the task
pub record ComesNew (s : List ℕ) (l : Lists) (x : Task) : Type 0 where
  pub lists : HoldsLists s l
  pub own : Holds s (other_words l.version x)
  pub unowned : AreUnowned l x.address (x.address + head_words_of l.version)
  pub inside : x.address + head_words_of l.version ≤ length s
  pub some : 0 < x.address
  pub guest : is_guest_id x.id ≡ true
  pub low : 1 ≤ x.id
  pub high : x.id ≤ highest_id_of l.version
  pub absent : has_task x.id l.tasks ≡ false
  pub queue : x.queue ≡ []
  pub list : x.coroutines.list ≡ []
  pub valid : AreValid (with_new_task x l)

module _ (s : List ℕ) (l : Lists) (x : Task) (c : ComesNew s l x) where
  abbrev words : Task → ℕ → Pairs
  words = task_words l.version

  abbrev head : ℕ
  head = head_words_of l.version

  r : ReadsLists s l
  r = reads s l c.lists

  root : RootWords s l
  root = root-held s l (address_of_task l l.running) (holds-parts s l c.lists.holds).root

  -- its number and its priority are in the store
  number : id_in s x.address ≡ x.id
  number = c.own.0

  -- no task has its number
  unused : task_with s (id_in s x.address) (tasks_in s) ≡ None
  unused = ap (λ i. task_with s i (tasks_in s)) number ∙ on (task_with s x.id (tasks_in s)) (find-task s l x.id c.lists)
    where
      on : (o : Option ℕ) → Finds x.id l.tasks o → o ≡ None
      on None f = refl
      on (Some a) f = absurd (there f.front f.task f.back f.is f.number)
        where
          there : (front : List Task) (t : Task) (back : List Task) → l.tasks ≡ front ++ t ∷ back → t.id ≡ x.id → ⊥
          there front t back is e =
              false≢true (sym c.absent ∙ subst (λ ts. has_task x.id ts ≡ true) (sym is) (any-here (λ u. eqb u.id x.id) front t back (eq-eqb t.id x.id e)))

  apart : (a : ℕ) → times a (node_words task_size x.address) + times a (table_words ++ words_of task_size (tasks_in s)) ≤ 1
  apart a =
      let low : times a (words_of task_size (map task_address l.tasks)) ≤ owners a (linked_words task_address words l.tasks 0) =
      held-count task_address words task_link task_size (are_tasks l.version).nodes a l.tasks 0
      in
      let chain : times a (words_of task_size (tasks_in s)) ≡ times a (words_of task_size (map task_address l.tasks)) = ap (λ ts. times a (words_of task_size ts)) r.tasks.chain in
      elim (cases_lt 0 (times a (node_words task_size x.address))) [
        | inl some ↦
            let none : owners a (owned l) ≡ 0 = c.unowned a (range-low a x.address 23 some) (omega (arith, range-high a x.address 23 some, head-low l.version)) in
            omega (arith, none, low, chain, owners-nodes a l, times-append a table_words (words_of task_size (tasks_in s)), range-apart x.address 23 a)
        | inr none ↦ omega (arith, none, low, chain, r.held_tasks.apart a, times-append a table_words (words_of task_size (tasks_in s)))
      ]

  pub may-come : IsNewTask s x.address
  may-come =
      record {
        node = record { some = c.some; after = omega arith; before = omega arith; inside = omega (arith, c.inside, head-low l.version) };
        apart = apart;
        low = omega (arith, c.low, number);
        high = omega (arith, c.high, number, root.highest);
        unused = unused;
      }

  pub has-tasks : HasTasks s
  has-tasks = r.tasks.tasks

  inserted : InsertExchange task_address task_id task_priority words s (task_in s x.address) l.tasks x
  inserted =
      insert-exchange task_address task_id words (are_tasks l.version) task_priority (record { level = λ s t n h. h.1.1.0 }) s l.tasks x r.held_tasks
      (record { task = may-come; number = number; level = c.own.1.0 })

  abbrev chain : List Task
  chain = inserted.front ++ x ∷ inserted.back

  abbrev n : ℕ
  n = first_of task_address inserted.back 0

  abbrev there : Pairs
  there = present_words task_address task_id inserted.front x

  abbrev gone : Pairs
  gone = absent_words task_address task_id inserted.front x inserted.back

  exchange : Exchange (listed l l.tasks) (listed l chain) gone (there ++ words x n)
  exchange =
      subst (λ ts. Exchange (listed l ts) (listed l chain) gone (there ++ words x n)) (sym inserted.is)
      (subst (λ top. Exchange (listed_words task_address task_id words top (inserted.front ++ inserted.back)) (listed_words task_address task_id words top chain) gone (there ++ words x n))
      root.highest inserted.exchange)

  -- its words are owned besides those of the others
  count : (a : ℕ) → owners a (around l (listed l chain)) ≡ owners a (around l (listed l l.tasks)) + times a (range_with_len x.address head)
  count a =
      around-count l a (listed l chain) (listed l l.tasks) (times a (range_with_len x.address head))
      (owners-task_between a l.version (highest_id_of l.version) inserted.front x inserted.back
      ∙ (λ i. owners a (listed l (sym inserted.is i)) + owners-new_task a l.version x c.guest c.queue c.list i))

  -- the task that runs is another
  same-address : address_with task_address task_id chain l.running ≡ address_of_task l l.running
  same-address =
      address_with-out inserted.front x inserted.back l.running none_before
      ∙ ap (λ b. cond b x.address (address_with task_address task_id (inserted.front ++ inserted.back) l.running)) (ne_eqb x.id l.running other)
      ∙ ap (λ ts. address_with task_address task_id ts l.running) (sym inserted.is)
    where
      none_before : times x.id (map task_id inserted.front) ≡ 0
      none_before =
          omega (
            arith,
            none-times_id x.id l.tasks c.absent,
            ap (λ ts. times x.id (map task_id ts)) inserted.is,
            ap (times x.id) (map-append task_id inserted.front inserted.back),
            times-append x.id (map task_id inserted.front) (map task_id inserted.back),
          )

      other : x.id ≢ l.running
      other e =
          elim c.lists.valid.queues.running [
            | inl none ↦ absurd (omega (arith, none, e, c.low))
            | inr some ↦ false≢true (sym c.absent ∙ ap (λ i. has_task i l.tasks) e ∙ some)
          ]

  owned-after : owned (with_new_task x l) ≡ around l (listed l chain)
  owned-after = ap (λ ts. owned (with_tasks ts l)) inserted.becomes ∙ owned-chain l chain same-address

  pub new-count : (a : ℕ) → owners a (owned (with_new_task x l)) ≡ owners a (owned l) + times a (range_with_len x.address head)
  new-count a = ap (owners a) owned-after ∙ count a ∙ ap (λ z. owners a z + times a (range_with_len x.address head)) (sym (owned-around l))

  pub inserted-changed : IsChanged s (task_in s x.address) (with_new_task x l) []
  inserted-changed =
      let t : List ℕ = task_in s x.address in
      let m : Lists = with_new_task x l in
      let w : IsWritten s t (around l (listed l chain)) [] =
      subst (λ z. IsWritten s z (around l (listed l chain)) []) (sym inserted.writes)
      (writes-hold s (around l (listed l l.tasks)) (around l (listed l chain)) gone (there ++ (x.address, n) ∷ []) (other_words l.version x) []
      (record {
        holds = subst (Holds s) (owned-around l) c.lists.holds;
        exchange = around-exchange l (listed l l.tasks) (listed l chain) gone (there ++ words x n) exchange;
        there = c.own;
        apart = λ a. omega (arith, c.valid.owns.apart a, ap (owners a) owned-after);
        inside = λ a some. omega (arith, c.lists.size, c.valid.owns.inside a (omega (arith, some, ap (owners a) owned-after)));
        unowned = λ a some. absurd (omega (arith, some));
      }))
      in
      let size : length t ≡ length s = ap length inserted.writes ∙ length-written (there ++ (x.address, n) ∷ []) s in
      let holds : Holds t (owned m) = subst (Holds t) (sym owned-after) w.holds in
      record {
        lists = record { valid = c.valid; size = size ∙ c.lists.size; holds = holds };
        size = size;
        written = record { holds = holds; others = λ a none. w.others a (sym (ap (owners a) owned-after) ∙ none) };
      }
