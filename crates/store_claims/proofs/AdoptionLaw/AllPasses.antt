-- A store holds the words of valid lists exactly where each pass finds what it looks for.
use Rattle.std.proofs.Common.{◌≡◌, ◌↔◌, ℕ, ◌+◌, ◌-◌, ◌≤◌, List, [], ◌∷◌, ◌++◌, length, map, get_or, refl, sym, subst, arith}
use Rattle.std.specs.List.{AllByRecursion}
use Rattle.kernel_lists.specs.LinkedList.Chain.{IsChain}
use Rattle.kernel_lists.specs.OwnedWords.LinkedWords.{headed_words}
use Rattle.kernel_lists.specs.OwnedWords.Owned.{Holds, Pairs, row_from}
use Rattle.kernel_lists.proofs.OwnedWords.OwnedWords.{Holds-append}
use Rattle.kernel_lists.specs.declared.getvec_chain.pieces.Block.{Block}
use Rattle.kernel_lists.specs.GetvecChain.Block.{block_end}
use Rattle.kernel_lists.specs.GetvecChain.BlockWords.{blocks_words}
use Rattle.kernel_lists.specs.GetvecChain.Tiling.{Follow, Tiles, blocks_in}
use Rattle.kernel_lists.specs.HunkLoader.HeldModules.{module_address}
use Rattle.kernel_lists.specs.HunkLoader.ModuleExchanges.{modules_words}
use Rattle.kernel_lists.specs.HunkLoader.ModuleHunks.{hunk_count, lengths_in}
use Rattle.kernel_lists.specs.PacketQueue.Queue.{link_of, queue_at}
use Rattle.kernel_lists.specs.PacketQueue.QueueWords.{address_of, other_words, queue_words}
use Rattle.kernel_lists.specs.TaskBlock.Lists.{modules_in}
use Rattle.kernel_lists.specs.TaskBlock.TaskChain.{tasks_in}
use Rattle.kernel_lists.specs.Coroutines.CoroutineExchanges.{words_of_coroutines}
use Rattle.kernel_model.specs.KernelRecord.HoldsLists.{HoldsLists}
use Rattle.kernel_model.specs.KernelRecord.KernelRanges.{CanWalkLists, CanWalkTask, IsModuleIn}
use Rattle.kernel_model.specs.KernelRecord.Lists.{Lists, address_of_task}
use Rattle.kernel_model.specs.KernelRecord.Owned.{clock_head, device_words, keyboard_head, output_head, owned, tasks_words}
use Rattle.kernel_model.specs.KernelRecord.Recovered.{lists_in, module_in, packet_in, packets_at, task_in}
use Rattle.kernel_model.specs.KernelRecord.Residents.{resident_words}
use Rattle.kernel_model.specs.KernelRecord.Root.{root_words}
use Rattle.kernel_model.specs.KernelRecord.Task.{Task, fault_words, name_words, other_words as task_others, queue_head, state_words, task_address, task_words}
use Rattle.kernel_model.proofs.KernelRecord.BlockStarts.{Tiles-Follow}
use Rattle.kernel_model.proofs.KernelRecord.EachMember.{holds-each}
use Rattle.kernel_model.proofs.KernelRecord.OwnedParts.{HoldsParts, chain_part, holds-parts, root_part, table_part}
use Rattle.kernel_model.proofs.KernelRecord.ReadCoroutines.{HoldsTask, holds-task}
use Rattle.kernel_model.proofs.KernelRecord.WalkedLists.{can-walk}
use Rattle.store_claims.specs.AdoptionLaw.Passes.{HoldsTaskWords, Passes}
use Rattle.store_claims.specs.ListClaims.ListEnds.{TaskListsEnd}
use Rattle.store_claims.proofs.AdoptionLaw.HeldChains.{chain-held, range-row, IsRow}

-- ---- from a store that holds valid lists

module _ (s : List ℕ) (h : HoldsLists s (lists_in s)) where
  abbrev l : Lists
  l = lists_in s

  parts : HoldsParts s l
  parts = holds-parts s l h.holds

  walk : CanWalkLists s
  walk = can-walk s l h

  running-at : get_or s 102 0 ≡ address_of_task l l.running
  running-at = parts.root.1.0

  ends-of : (t : ℕ) → CanWalkTask s t → TaskListsEnd s t
  ends-of t w = record { queue = w.queue.chain; coroutines = w.coroutines.chain }

  all-ends : (ts : List ℕ) → AllByRecursion (CanWalkTask s) ts → AllByRecursion (TaskListsEnd s) ts
  all-ends [] all = tt
  all-ends (t ∷ ts) all = (ends-of t all.0, all-ends ts all.1)

  head-of : (t : Task) (n : ℕ) → Holds s (task_words l.version t n) → HoldsTaskWords s l t
  head-of t n own = (let w : HoldsTask s l.version t = holds-task s l.version t n own in record { state = w.state; fault = w.fault; coroutines = w.coroutines })

  pub passes : Passes s
  passes = record {
    root = record {
      size = h.size;
      version = h.valid.numbers.version;
      store_size = h.valid.numbers.size;
      period = h.valid.numbers.period;
      words = subst (λ r. Holds s (root_words l r)) (sym running-at) parts.root;
    };
    tiled = walk.tiled;
    ends = record {
      chain = walk.chain.chain;
      tasks = all-ends (tasks_in s) walk.tasks;
      modules = walk.modules.chain;
      lengths = walk.module_words;
      clock = walk.clock.chain;
      keyboard = walk.keyboard.chain;
      output = walk.output.chain;
      pending = λ there. (walk.pending there).chain;
    };
    owns = h.valid.owns;
    modules = h.valid.modules;
    tasks = h.valid.tasks;
    table = parts.table;
    running = running-at;
    coroutines = h.valid.coroutines;
    heads = holds-each task_address (task_words l.version) s (HoldsTaskWords s l) head-of l.tasks 0 parts.chain.1;
    resident_block = h.valid.numbers.residents;
    queues = h.valid.queues;
    resident_words = parts.residents;
  }

-- ---- from the passes

module _ (s : List ℕ) (p : Passes s) where
  abbrev m : Lists
  m = lists_in s

  -- ---- what is read off has the lists of the store

  the-blocks : m.blocks ≡ blocks_in s
  unfolding lists_in
  the-blocks = refl

  the-tasks : m.tasks ≡ map (task_in s) (tasks_in s)
  unfolding lists_in
  the-tasks = refl

  the-modules : m.modules ≡ map (module_in s) (modules_in s)
  unfolding lists_in
  the-modules = refl

  the-clock : m.clock ≡ packets_at s clock_head
  unfolding lists_in
  the-clock = refl

  the-keyboard : m.keyboard ≡ packets_at s keyboard_head
  unfolding lists_in
  the-keyboard = refl

  the-output : m.output ≡ packets_at s output_head
  unfolding lists_in
  the-output = refl

  -- ---- the words of each list

  map-address : {X : Type 0} (f : ℕ → X) (address : X → ℕ) → ((a : ℕ) → address (f a) ≡ a) → (vs : List ℕ) → map address (map f vs) ≡ vs
  map-address f address same [] = refl
  map-address f address same (a ∷ vs) = λ i. same a i ∷ map-address f address same vs i

  all-of : {X : Type 0} (f : ℕ → X) (P : X → Type 0) → ((a : ℕ) → P (f a)) → (vs : List ℕ) → AllByRecursion P (map f vs)
  all-of f P each [] = tt
  all-of f P each (a ∷ vs) = (each a, all-of f P each vs)

  -- the words of a queue are read off them
  queue-holds : (head : ℕ) → IsChain s link_of head (queue_at s head) → Holds s (queue_words head (packets_at s head))
  queue-holds head chain =
      chain-held address_of other_words s head (packets_at s head)
      (subst (IsChain s (λ a. a) head) (sym (map-address (packet_in s) address_of (λ a. refl) (queue_at s head))) chain)
      (all-of (packet_in s) (λ q. Holds s (other_words q)) (λ a. (refl, (refl, (refl, (refl, tt))))) (queue_at s head))

  -- and so are those of modules
  module-holds : (ms : List ℕ) → AllByRecursion (IsModuleIn s) ms → AllByRecursion (λ x. Holds s (row_from x.address 1 (length x.lengths ∷ x.lengths))) (map (module_in s) ms)
  module-holds [] all = tt
  module-holds (a ∷ vs) all =
      let r : IsRow s a 2 (hunk_count s a) (lengths_in s a) = range-row s a 2 (hunk_count s a) all.0 in
      ((sym r.size, r.holds), module-holds vs all.1)

  modules-hold : Holds s (modules_words m.modules)
  modules-hold =
      subst (λ ms. Holds s (modules_words ms)) (sym the-modules)
      (chain-held module_address (λ x. row_from x.address 1 (length x.lengths ∷ x.lengths)) s 104 (map (module_in s) (modules_in s))
      (subst (IsChain s (λ a. a) 104) (sym (map-address (module_in s) module_address (λ a. refl) (modules_in s))) p.ends.modules)
      (module-holds (modules_in s) p.ends.lengths))

  -- a task's words but for its link
  task-holds : (a : ℕ) → TaskListsEnd s a → HoldsTaskWords s m (task_in s a) → Holds s (task_others m.version (task_in s a))
  task-holds a e h =
      let t : Task = task_in s a in
      let queue : Pairs = queue_words (queue_head t.address) t.queue in
      let frames : Pairs = words_of_coroutines t.address t.coroutines in
      Holds-append s (name_words t) (state_words m.version t ++ (fault_words m.version t ++ (queue ++ frames))) (refl, (refl, tt))
      (Holds-append s (state_words m.version t) (fault_words m.version t ++ (queue ++ frames)) h.state
      (Holds-append s (fault_words m.version t) (queue ++ frames) h.fault
      (Holds-append s queue frames (queue-holds (queue_head a) e.queue) h.coroutines)))

  tasks-hold : (vs : List ℕ) → AllByRecursion (TaskListsEnd s) vs → AllByRecursion (HoldsTaskWords s m) (map (task_in s) vs) → AllByRecursion (λ t. Holds s (task_others m.version t)) (map (task_in s) vs)
  tasks-hold [] ends heads = tt
  tasks-hold (a ∷ vs) ends heads = (task-holds a ends.0 heads.0, tasks-hold vs ends.1 heads.1)

  chain-holds : Holds s (chain_part m)
  chain-holds =
      subst (λ ts. Holds s (headed_words task_address (task_words m.version) 101 ts 0)) (sym the-tasks)
      (chain-held task_address (task_others m.version) s 101 (map (task_in s) (tasks_in s))
      (subst (IsChain s (λ a. a) 101) (sym (map-address (task_in s) task_address (λ a. refl) (tasks_in s))) p.ends.chain)
      (tasks-hold (tasks_in s) p.ends.tasks (subst (AllByRecursion (HoldsTaskWords s m)) the-tasks p.heads)))

  blocks-hold : (at : ℕ) (bs : List Block) → Tiles s at bs → Holds s (blocks_words bs)
  blocks-hold at [] t = tt
  blocks-hold at (b ∷ bs) t = (t.1.word, blocks-hold (block_end b) bs t.2)

  -- ---- all of them

  all-held : Holds s (owned m)
  unfolding owned
  all-held =
      let devices : Pairs = device_words m in
      let last : Pairs = devices ++ resident_words m in
      let modules : Pairs = modules_words m.modules ++ last in
      let tasks : Pairs = tasks_words m ++ modules in
      let clock : Pairs = queue_words clock_head m.clock in
      let keyboard : Pairs = queue_words keyboard_head m.keyboard in
      let output : Pairs = queue_words output_head m.output in
      Holds-append s (root_part m) (blocks_words m.blocks ++ tasks) (subst (λ r. Holds s (root_words m r)) p.running p.root.words)
      (Holds-append s (blocks_words m.blocks) tasks (subst (λ bs. Holds s (blocks_words bs)) (sym the-blocks) (blocks-hold 200 (blocks_in s) p.tiled))
      (Holds-append s (tasks_words m) modules (Holds-append s (table_part m) (chain_part m) p.table chain-holds)
      (Holds-append s (modules_words m.modules) last modules-hold
      (Holds-append s devices (resident_words m)
      (Holds-append s clock (keyboard ++ output) (subst (λ q. Holds s (queue_words clock_head q)) (sym the-clock) (queue-holds clock_head p.ends.clock))
      (Holds-append s keyboard output (subst (λ q. Holds s (queue_words keyboard_head q)) (sym the-keyboard) (queue-holds keyboard_head p.ends.keyboard))
      (subst (λ q. Holds s (queue_words output_head q)) (sym the-output) (queue-holds output_head p.ends.output))))
      p.resident_words))))

  inside : 202 ≤ length s
  inside = tiled-inside 200 (blocks_in s) p.tiled
    where
      tiled-inside : (at : ℕ) (bs : List Block) → Tiles s at bs → at + 2 ≤ length s
      tiled-inside at [] t = omega (arith, t.0)
      tiled-inside at (b ∷ bs) t = omega (arith, t.0, tiled-inside (block_end b) bs t.2)

  pub holds-lists : HoldsLists s (lists_in s)
  holds-lists = record {
    valid = record {
      blocks = subst (λ bs. Follow 200 bs (m.size - 2)) (sym the-blocks) (Tiles-Follow s 200 (blocks_in s) (m.size - 2) p.tiled (omega (arith, inside, p.root.size)));
      numbers = record { version = p.root.version; size = p.root.store_size; period = p.root.period; residents = p.resident_block };
      modules = p.modules;
      tasks = p.tasks;
      coroutines = p.coroutines;
      queues = p.queues;
      owns = p.owns;
    };
    size = p.root.size;
    holds = all-held;
  }

pub all-passes : (s : List ℕ) → HoldsLists s (lists_in s) ↔ Passes s
all-passes s = (passes s, holds-lists s)
