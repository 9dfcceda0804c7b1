-- In a store that stands for a kernel the lists can be walked, and tasks and modules have the kernel's sizes.
use Rattle.std.proofs.Common.{◌≡◌, ℕ, ◌+◌, ◌-◌, ◌||◌, Bool, true, false, List, [], ◌∷◌, length, map, cond, drop, eqb, get_or, leb, not, refl, sym, ap, ◌∙◌, subst, arith}
use Rattle.std.specs.List.{AllByRecursion, list_any, range_with_len}
use Rattle.word_store.specs.Count.{times}
use Rattle.word_store.proofs.Counts.{times-within}
use Rattle.kernel_lists.proofs.LinkedList.Walks.{can_walk}
use Rattle.kernel_lists.specs.OwnedWords.LinkedWords.{first_of, linked_words}
use Rattle.kernel_lists.specs.OwnedWords.Owned.{AreInside, Holds, Pairs}
use Rattle.kernel_lists.proofs.OwnedWords.HeldLists.{held-list}
use Rattle.kernel_lists.proofs.OwnedWords.OwnedWords.{Holds-left, Holds-right, owners-append}
use Rattle.kernel_lists.proofs.OwnedWords.RowWords.{owners-row}
use Rattle.kernel_lists.specs.HunkLoader.HeldModules.{LoadedModule, module_address, module_words}
use Rattle.kernel_lists.proofs.HunkLoader.HeldModuleLists.{are_modules, module_size}
use Rattle.kernel_lists.specs.PacketQueue.Queue.{HasQueue}
use Rattle.kernel_lists.specs.PacketQueue.QueueWords.{HeldQueue, QueuedPacket}
use Rattle.kernel_lists.proofs.PacketQueue.HeldQueues.{held-queue}
use Rattle.kernel_lists.specs.TaskBlock.Lists.{coroutine_link, first_coroutine, module_link}
use Rattle.kernel_lists.specs.TaskBlock.RootWords.{first_task}
use Rattle.kernel_lists.specs.TaskBlock.TaskChain.{id_in, task_link, task_size}
use Rattle.kernel_lists.specs.Coroutines.CoroutineExchanges.{HoldsCoroutines}
use Rattle.kernel_lists.specs.Coroutines.CoroutineWords.{coroutine_size}
use Rattle.kernel_lists.proofs.Coroutines.HeldCoroutineLists.{held-coroutines}
use Rattle.kernel_model.specs.KernelRecord.Lists.{Lists, has_task}
use Rattle.kernel_model.specs.KernelRecord.Owned.{clock_head, keyboard_head, output_head}
use Rattle.kernel_model.specs.KernelRecord.Residents.{pending_head}
use Rattle.kernel_model.specs.KernelRecord.ReadsLists.{ReadsLists}
use Rattle.kernel_model.specs.KernelRecord.Task.{Task, filled, further_modules, is_guest_id, queue_head, task_address, task_words}
use Rattle.kernel_model.specs.KernelRecord.Versions.{head_words_of}
use Rattle.kernel_model.proofs.KernelRecord.EachMember.{all-both, all-each, holds-each}
use Rattle.kernel_model.proofs.KernelRecord.OwnedParts.{HoldsParts, holds-parts}
use Rattle.kernel_model.proofs.KernelRecord.Reading.{read-lists}
use Rattle.kernel_model.proofs.KernelRecord.RootCounts.{RootWords, head-low, length-filled, root-held}
use Rattle.kernel_model.proofs.KernelRecord.TaskKind.{are_tasks}
use Rattle.kernel_model.specs.KernelRecord.HoldsLists.{HoldsLists}
use Rattle.kernel_model.specs.KernelRecord.KernelRanges.{CanWalkLists, CanWalkTask, IsModuleIn, has_reporter, has_residents, task_size_in}
use Rattle.kernel_model.proofs.KernelRecord.ListRanges.{HasCount, TaskReads}

-- what holds of each thing holds of its address
all-addresses : {X : Type 0} (address : X → ℕ) (P : ℕ → Type 0) (xs : List X) → AllByRecursion (λ x. P (address x)) xs → AllByRecursion P (map address xs)
all-addresses address P [] all = tt
all-addresses address P (x ∷ xs) all = (all.0, all-addresses address P xs all.1)

module _ (s : List ℕ) (l : Lists) (i : HoldsLists s l) where
  pub reads : ReadsLists s l
  reads = read-lists s l i.valid i.size i.holds

  parts : HoldsParts s l
  parts = holds-parts s l i.holds

  root : RootWords s l
  root = root-held s l _ parts.root

  version : get_or s 111 0 ≡ l.version
  version = root.numbers.1.1.1.0

  pub residents-read : has_residents s ≡ l.residents
  residents-read = ap (λ w. not (eqb w 0)) root.numbers.1.1.1.1.0 ∙ on l.residents
    where
      on : (b : Bool) → not (eqb (cond b 201 0) 0) ≡ b
      on true = refl
      on false = refl

  -- ---- tasks

  size-read : (t : Task) → id_in s t.address ≡ t.id → task_size_in s t.address ≡ 23 + length (further_modules l.version t)
  size-read t id = (λ j. cond (leb 5 (id j)) (cond (eqb (version j) 2) 30 23) 23) ∙ on (is_guest_id t.id)
    where
      on : (b : Bool) → cond b (head_words_of l.version) 23 ≡ 23 + length (cond b (filled (head_words_of l.version - 23) (drop 1 t.modules)) [])
      on true = omega (arith, head-low l.version, length-filled (head_words_of l.version - 23) (drop 1 t.modules))
      on false = refl

  ids-read : AllByRecursion (λ t. id_in s t.address ≡ t.id) l.tasks
  ids-read = holds-each task_address (task_words l.version) s (λ t. id_in s t.address ≡ t.id) (λ t n h. (are_tasks l.version).number s t n h) l.tasks 0 parts.chain.1

  pub tasks-read : AllByRecursion (TaskReads s l.version) l.tasks
  tasks-read =
      all-each _ (TaskReads s l.version)
      (λ t all. record {
        size = size-read t all.0;
        queue = (held-queue s (queue_head t.address) t.queue all.1.0).list;
        list = (held-coroutines s t.address t.coroutines.active t.coroutines.list all.1.1.coroutines).list;
      })
      l.tasks
      (all-both _ _ l.tasks
      ids-read
      (all-both _ _ l.tasks reads.work reads.coroutines))

  has-read : (ts : List Task) → AllByRecursion (λ t. id_in s t.address ≡ t.id) ts → list_any (λ t. eqb (id_in s t) 2) (map task_address ts) ≡ has_task 2 ts
  has-read [] all = refl
  has-read (t ∷ ts) all = λ j. eqb (all.0 j) 2 || has-read ts all.1 j

  pub reporter-read : has_reporter s ≡ has_task 2 l.tasks
  reporter-read = ap (list_any (λ t. eqb (id_in s t) 2)) reads.tasks.chain ∙ has-read l.tasks ids-read

  -- ---- modules

  pub counts-read : AllByRecursion (HasCount s) l.modules
  counts-read = holds-each module_address module_words s (HasCount s) (λ m n h. h.1.0) l.modules 0 parts.modules.1

  list-walk : (head : ℕ) (ps : List QueuedPacket) → HeldQueue s head ps → HasQueue s head
  list-walk head ps h = (held-queue s head ps h).valid

  module-inside : (m : LoadedModule) (n : ℕ) → Holds s (module_words m n) → AreInside s (module_words m n) → IsModuleIn s m.address
  module-inside m n h inside =
      let k : ℕ = length m.lengths in
      let last : ℕ = m.address + 1 + k in
      let here : times last (range_with_len (m.address + 1) (length (k ∷ m.lengths))) ≡ 1 = times-within last (m.address + 1) (length (k ∷ m.lengths)) (omega arith) (omega arith) in
      omega (arith, h.1.0, inside last (omega (arith, here, owners-row last m.address 1 (k ∷ m.lengths))))

  modules-inside : (ms : List LoadedModule) (end : ℕ) → Holds s (linked_words module_address module_words ms end) → AreInside s (linked_words module_address module_words ms end)
      → AllByRecursion (λ m. IsModuleIn s m.address) ms
  modules-inside [] end h inside = tt
  modules-inside (m ∷ ms) end h inside =
      let n : ℕ = first_of module_address ms end in
      let rest : Pairs = linked_words module_address module_words ms end in (
        module-inside m n (Holds-left s (module_words m n) rest h) (λ a some. inside a (omega (arith, some, owners-append a (module_words m n) rest))),
        modules-inside ms end (Holds-right s (module_words m n) rest h) (λ a some. inside a (omega (arith, some, owners-append a (module_words m n) rest))),
      )

  task-walk : (t : Task) → HeldQueue s (queue_head t.address) t.queue → HoldsCoroutines s t.address t.coroutines → CanWalkTask s t.address
  task-walk t queue co =
      let list = (held-coroutines s t.address t.coroutines.active t.coroutines.list co.coroutines).valid in
      record {
        inside = list.list.head_inside;
        queue = list-walk (queue_head t.address) t.queue queue;
        coroutines = can_walk s coroutine_link coroutine_size (first_coroutine t.address) list.list;
      }

  pub can-walk : CanWalkLists s
  can-walk =
      let modules = held-list module_address module_words module_link module_size are_modules s 104 l.modules reads.modules.held in
      record {
        tiled = reads.tiled;
        module_words = subst (AllByRecursion (IsModuleIn s)) (sym modules.list) (all-addresses module_address (IsModuleIn s) l.modules
            (modules-inside l.modules 0 parts.modules.1 (λ a some. reads.modules.held.inside a (omega (arith, some)))));
        chain = can_walk s task_link task_size first_task reads.tasks.tasks.chain;
        modules = can_walk s module_link module_size 104 modules.valid;
        tasks = subst (AllByRecursion (CanWalkTask s)) (sym reads.tasks.chain) (all-addresses task_address (CanWalkTask s) l.tasks
            (all-each _ (λ t. CanWalkTask s t.address) (λ t both. task-walk t both.0 both.1) l.tasks (all-both _ _ l.tasks reads.work reads.coroutines)));
        clock = list-walk clock_head l.clock reads.clock;
        keyboard = list-walk keyboard_head l.keyboard reads.keyboard;
        output = list-walk output_head l.output reads.output;
        pending = λ there. list-walk pending_head l.pending (reads.pending (sym residents-read ∙ there));
      }
