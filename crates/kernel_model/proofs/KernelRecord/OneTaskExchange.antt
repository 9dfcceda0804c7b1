-- An exchange among the words of one task is one of all owned words, and so is one of the word that names the running task.
use Rattle.std.proofs.Common.{◌≡◌, ℕ, ◌-◌, List, [], ◌∷◌, ◌++◌, cond, eqb, refl, ap, subst, arith}
use Rattle.kernel_lists.specs.OwnedWords.Exchange.{Exchange}
use Rattle.kernel_lists.specs.OwnedWords.LinkedWords.{first_of, headed_words, linked_words}
use Rattle.kernel_lists.specs.OwnedWords.Owned.{Pairs, row_from}
use Rattle.kernel_lists.proofs.OwnedWords.Exchanges.{exchange-left, exchange-linked, exchange-right}
use Rattle.kernel_lists.specs.GetvecChain.BlockWords.{blocks_words}
use Rattle.kernel_lists.specs.HunkLoader.ModuleExchanges.{modules_words}
use Rattle.kernel_lists.specs.TaskBlock.ChainWords.{entries}
use Rattle.kernel_lists.specs.TaskBlock.HeldTasks.{address_with}
use Rattle.kernel_model.specs.KernelRecord.Changes.{with_tasks}
use Rattle.kernel_model.specs.KernelRecord.Lists.{Lists, address_of_task}
use Rattle.kernel_model.specs.KernelRecord.Owned.{device_words, owned, tasks_words}
use Rattle.kernel_model.specs.KernelRecord.Residents.{resident_words}
use Rattle.kernel_model.specs.KernelRecord.Root.{number_words, root_words, unused_entries}
use Rattle.kernel_model.specs.KernelRecord.Task.{Task, task_address, task_id, task_words}
use Rattle.kernel_model.specs.KernelRecord.Versions.{highest_id_of}

-- ---- the table and the head of the chain do not tell one task from another with its number and its address

address_with-same : (front : List Task) (t u : Task) (back : List Task) (i : ℕ) → t.id ≡ u.id → t.address ≡ u.address
    → address_with task_address task_id (front ++ t ∷ back) i ≡ address_with task_address task_id (front ++ u ∷ back) i
address_with-same [] t u back i e f = λ j. cond (eqb (e j) i) (f j) (address_with task_address task_id back i)
address_with-same (z ∷ zs) t u back i e f = ap (λ r. cond (eqb z.id i) z.address r) (address_with-same zs t u back i e f)

entries-same : (f g : ℕ → ℕ) (i n : ℕ) → ((k : ℕ) → f k ≡ g k) → entries f i n ≡ entries g i n
entries-same f g i n same = λ j. entries (λ k. same k j) i n

first_of-same : (front : List Task) (t u : Task) (back : List Task) → t.address ≡ u.address → first_of task_address (front ++ t ∷ back) 0 ≡ first_of task_address (front ++ u ∷ back) 0
first_of-same [] t u back f = f
first_of-same (z ∷ zs) t u back f = refl

module _ (l : Lists) (front : List Task) (t u : Task) (back : List Task) (old new : Pairs) (id : t.id ≡ u.id) (address : t.address ≡ u.address)
    (inner : Exchange (task_words l.version t (first_of task_address back 0)) (task_words l.version u (first_of task_address back 0)) old new) where
  abbrev before : List Task
  before = front ++ t ∷ back

  abbrev after : List Task
  after = front ++ u ∷ back

  abbrev table : List Task → Pairs
  table ts = entries (address_with task_address task_id ts) 1 (highest_id_of l.version)

  -- the words of the root, the table and the other lists around the chain
  abbrev root : List Task → Pairs
  root ts = root_words l (address_with task_address task_id ts l.running)

  abbrev others : Pairs
  others = modules_words l.modules ++ (device_words l ++ resident_words l)

  abbrev chain : List Task → Pairs
  chain ts = headed_words task_address (task_words l.version) 101 ts 0

  chain-exchange : Exchange (chain before) (chain after) old new
  chain-exchange =
      subst (λ f. Exchange (chain before) ((101, f) ∷ linked_words task_address (task_words l.version) after 0) old new) (first_of-same front t u back address)
      (exchange-right ((101, first_of task_address before 0) ∷ []) _ _ old new (exchange-linked task_address (task_words l.version) front t u back 0 old new address inner))

  pub one_task-exchange : Exchange (owned (with_tasks before l)) (owned (with_tasks after l)) old new
  unfolding owned
  one_task-exchange =
      let same : (i : ℕ) → address_with task_address task_id before i ≡ address_with task_address task_id after i = λ i. address_with-same front t u back i id address in
      subst (λ r. Exchange (root before ++ (blocks_words l.blocks ++ ((table before ++ chain before) ++ others))) (r ++ (blocks_words l.blocks ++ ((table after ++ chain after) ++ others))) old new)
      (ap (root_words l) (same l.running))
      (exchange-right (root before) _ _ old new
      (exchange-right (blocks_words l.blocks) _ _ old new
      (exchange-left _ _ others old new
      (subst (λ e. Exchange (table before ++ chain before) (e ++ chain after) old new) (entries-same _ _ 1 (highest_id_of l.version) same)
      (exchange-right (table before) _ _ old new chain-exchange)))))

-- the words of the root behind the one that names the running task
abbrev root_behind : Lists → Pairs
root_behind l =
    (103, 200) ∷ (row_from 108 0 (number_words l) ++ ((120, highest_id_of l.version) ∷ (unused_entries l.version ++ (l.size - 2, 0) ∷ [])))

-- another task runs
pub running-exchange : (l : Lists) (id : ℕ)
    → Exchange (owned l) (owned (record l { running = id })) ((102, address_of_task l l.running) ∷ []) ((102, address_of_task l id) ∷ [])
unfolding owned
running-exchange l id =
    exchange-left (root_words l (address_of_task l l.running)) (root_words l (address_of_task l id)) (blocks_words l.blocks ++ (tasks_words l ++ (modules_words l.modules ++ (device_words l ++ resident_words l)))) _ _
    (record {
      rest = (100, 120) ∷ root_behind l;
      first = record { count = λ a. omega arith; opens = λ s h. ((h.0, h.1.1), (h.1.0, tt)); closes = λ s h k. (h.0, (k.0, h.1)) };
      then' = record { count = λ a. omega arith; opens = λ s h. ((h.0, h.1.1), (h.1.0, tt)); closes = λ s h k. (h.0, (k.0, h.1)) };
    })
