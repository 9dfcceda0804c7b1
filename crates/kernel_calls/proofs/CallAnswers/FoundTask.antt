-- The task that a store finds by a number, and the list with that task changed.
use Rattle.std.proofs.Common.{◌≡◌, ℕ, List, [], ◌∷◌, ◌++◌, map, cond, eqb, ◌≤◌, ◌&&◌, ◌||◌, find, Bool, true, false, Option, Some, None, refl, sym, ap, ◌∙◌, subst, arith}
use Rattle.std.proofs.lemmas.Bool.{eq-eqb, eqb-true, ne_eqb}
use Rattle.std.specs.List.{AllByRecursion, list_any}
use Rattle.word_store.specs.Count.{IsApart, times}
use Rattle.word_store.proofs.Counts.{hit-same}
use Rattle.kernel_lists.specs.TaskBlock.TaskChain.{id_in, task_with, tasks_in}
use Rattle.kernel_lists.proofs.TaskBlock.HeldTaskBlocks.{numbers}
use Rattle.kernel_lists.specs.TaskBlock.HeldTasks.{address_with}
use Rattle.kernel_model.specs.KernelRecord.HoldsLists.{HoldsLists}
use Rattle.kernel_model.specs.KernelRecord.Lists.{Lists, address_of_task, has_task}
use Rattle.kernel_model.specs.KernelRecord.ReadsLists.{ReadsLists}
use Rattle.kernel_model.specs.KernelRecord.Task.{Task, task_address, task_id, task_words}
use Rattle.kernel_model.proofs.KernelRecord.Reading.{read-lists}
use Rattle.kernel_model.proofs.KernelRecord.TaskKind.{are_tasks}
use Rattle.kernel_model.proofs.KernelRecord.ChainSplits.{address-between, has_task-between}

-- the task with the number is the one at the address
pub record TaskAt (ts : List Task) (id address : ℕ) : Type 0 where
  pub front : List Task
  pub task : Task
  pub back : List Task
  pub is : ts ≡ front ++ task ∷ back
  pub number : task.id ≡ id
  pub at : task.address ≡ address

abbrev pub Finds : ℕ → List Task → Option ℕ → Type 0
Finds id ts None = has_task id ts ≡ false
Finds id ts (Some address) = TaskAt ts id address

find-among : (s : List ℕ) (id : ℕ) (ts : List Task) → AllByRecursion (λ t. id_in s t.address ≡ t.id) ts → Finds id ts (task_with s id (map task_address ts))
find-among s id [] same = refl
find-among s id (t ∷ ts) same =
    subst (λ z. Finds id (t ∷ ts) (cond (eqb z id) (Some t.address) (task_with s id (map task_address ts)))) (sym same.0)
    (on (eqb t.id id) refl (find-among s id ts same.1))
  where
    behind : eqb t.id id ≡ false → (o : Option ℕ) → Finds id ts o → Finds id (t ∷ ts) o
    behind e None none = ap (λ b. b || has_task id ts) e ∙ none
    behind e (Some a) m = record { front = t ∷ m.front; task = m.task; back = m.back; is = ap (λ z. t ∷ z) m.is; number = m.number; at = m.at }

    on : (b : Bool) → eqb t.id id ≡ b → Finds id ts (task_with s id (map task_address ts)) → Finds id (t ∷ ts) (cond b (Some t.address) (task_with s id (map task_address ts)))
    on true e more = record { front = []; task = t; back = ts; is = refl; number = eqb-true t.id id e; at = refl }
    on false e more = behind e (task_with s id (map task_address ts)) more

pub reads : (s : List ℕ) (l : Lists) → HoldsLists s l → ReadsLists s l
reads s l h = read-lists s l h.valid h.size h.holds

pub find-task : (s : List ℕ) (l : Lists) (id : ℕ) → HoldsLists s l → Finds id l.tasks (task_with s id (tasks_in s))
find-task s l id h =
    let r : ReadsLists s l = reads s l h in
    subst (λ ts. Finds id l.tasks (task_with s id ts)) (sym r.tasks.chain)
    (find-among s id l.tasks (numbers task_address task_id (task_words l.version) (are_tasks l.version) s l.tasks 0 r.held_tasks.holds.1))

-- ---- a test that only the task with a number may pass

module _ (id : ℕ) (test : Task → Bool) where
  abbrev among : List Task → Bool
  among ts = list_any (λ t. eqb t.id id && test t) ts

  any-others : (ts : List Task) → times id (map task_id ts) ≡ 0 → among ts ≡ false
  any-others [] none = refl
  any-others (t ∷ ts) none =
      let other : eqb t.id id ≡ false = ne_eqb t.id id (λ e. absurd (omega (arith, none, hit-same id t.id (sym e)))) in
      ap (λ b. b && test t || among ts) other ∙ any-others ts (omega (arith, none))

  pub any-one : (front : List Task) (t : Task) (back : List Task) → t.id ≡ id → IsApart (map task_id (front ++ t ∷ back)) → among (front ++ t ∷ back) ≡ test t
  any-one [] t back e apart =
      let same : eqb t.id id ≡ true = eq-eqb t.id id e in
      ap (λ b. b && test t || among back) same ∙ ap (λ b. test t || b) (any-others back (omega (arith, apart id, hit-same id t.id (sym e)))) ∙ or_false (test t)
    where
      or_false : (b : Bool) → (b || false) ≡ b
      or_false true = refl
      or_false false = refl
  any-one (z ∷ zs) t back e apart =
      let other : eqb z.id id ≡ false = ne_eqb z.id id (λ f. absurd (omega (arith, apart id, hit-same id z.id (sym f), here zs))) in
      ap (λ b. b && test z || among (zs ++ t ∷ back)) other ∙ any-one zs t back e (λ a. omega (arith, apart a))
    where
      here : (ws : List Task) → 1 ≤ times id (map task_id (ws ++ t ∷ back))
      here [] = omega (arith, hit-same id t.id (sym e))
      here (w ∷ ws) = omega (arith, here ws)

-- ---- a task among others

-- the task with a number, where numbers are distinct
pub find-numbered : (id : ℕ) (front : List Task) (t : Task) (back : List Task) → t.id ≡ id → IsApart (map task_id (front ++ t ∷ back)) → find (λ u. eqb u.id id) (front ++ t ∷ back) ≡ Some t
find-numbered id [] t back e apart = ap (λ b. cond b (Some t) (find (λ u. eqb u.id id) back)) (eq-eqb t.id id e)
find-numbered id (z ∷ zs) t back e apart =
    ap (λ b. cond b (Some z) (find (λ u. eqb u.id id) (zs ++ t ∷ back))) (ne_eqb z.id id (λ f. absurd (omega (arith, apart id, hit-same id z.id (sym f), there zs))))
    ∙ find-numbered id zs t back e (λ a. omega (arith, apart a))
  where
    there : (ws : List Task) → 1 ≤ times id (map task_id (ws ++ t ∷ back))
    there [] = omega (arith, hit-same id t.id (sym e))
    there (w ∷ ws) = omega (arith, there ws)

-- the task that was found is where the table leads to
pub found-address : (l : Lists) (id a : ℕ) → IsApart (map task_id l.tasks) → TaskAt l.tasks id a → address_of_task l id ≡ a
found-address l id a apart t =
    ap (λ ts. address_with task_address task_id ts id) t.is
    ∙ ap (address_with task_address task_id (t.front ++ t.task ∷ t.back)) (sym t.number)
    ∙ address-between t.front t.task t.back (subst (λ ts. IsApart (map task_id ts)) t.is apart)
    ∙ t.at

pub found-there : (l : Lists) (id a : ℕ) → TaskAt l.tasks id a → has_task id l.tasks ≡ true
found-there l id a t = ap (has_task id) t.is ∙ ap (λ i. has_task i (t.front ++ t.task ∷ t.back)) (sym t.number) ∙ has_task-between t.front t.task t.back
