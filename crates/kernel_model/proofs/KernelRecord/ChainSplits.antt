-- A task in its place in the chain.
use Rattle.std.proofs.Common.{◌≡◌, ◌≢◌, ℕ, ◌<◌, ◌||◌, Bool, true, false, Some, List, [], ◌∷◌, ◌++◌, map, cond, eqb, refl, sym, ap, ◌∙◌, arith}
use Rattle.std.specs.Prelude.{find}
use Rattle.std.proofs.lemmas.Bool.{eq-eqb, eqb-true, ne_eqb}
use Rattle.word_store.specs.Count.{IsApart, times}
use Rattle.word_store.proofs.Counts.{hit-same}
use Rattle.kernel_lists.specs.TaskBlock.HeldTasks.{address_with}
use Rattle.kernel_model.specs.KernelRecord.Changes.{change_of, work_of}
use Rattle.kernel_model.specs.KernelRecord.Lists.{has_task}
use Rattle.kernel_model.specs.KernelRecord.Task.{Task, task_address, task_id}

-- the chain around a task
pub record IsBetween (ts : List Task) (t : Task) : Type 0 where
  pub front : List Task
  pub back : List Task
  pub is : ts ≡ front ++ t ∷ back

pub split-next : (z : Task) (ts : List Task) (t : Task) → IsBetween ts t → IsBetween (z ∷ ts) t
split-next z ts t b = record { front = z ∷ b.front; back = b.back; is = ap (λ r. z ∷ r) b.is }

-- the first one that passes a test
pub found-between : (f : Task → Bool) (ts : List Task) (t : Task) → find f ts ≡ Some t → IsBetween ts t × (f t ≡ true)
found-between f [] t e = cc
found-between f (z ∷ zs) t e = on (f z) refl e (found-between f zs t)
  where
    on : (b : Bool) → f z ≡ b → cond b (Some z) (find f zs) ≡ Some t → (find f zs ≡ Some t → IsBetween zs t × (f t ≡ true)) → IsBetween (z ∷ zs) t × (f t ≡ true)
    on true is e more = (let same : z ≡ t = cc in (record { front = []; back = zs; is = ap (λ r. r ∷ zs) same }, ap f (sym same) ∙ is))
    on false is e more = (let r = more e in (split-next z zs t r.0, r.1))

-- the task with a number
pub record HasNumbered (id : ℕ) (ts : List Task) : Type 0 where
  pub task : Task
  pub between : IsBetween ts task
  pub number : task.id ≡ id

pub numbered : (id : ℕ) (ts : List Task) → has_task id ts ≡ true → HasNumbered id ts
numbered id [] some = cc
numbered id (z ∷ zs) some = on (eqb z.id id) refl some (numbered id zs)
  where
    on : (b : Bool) → eqb z.id id ≡ b → (b || has_task id zs) ≡ true → (has_task id zs ≡ true → HasNumbered id zs) → HasNumbered id (z ∷ zs)
    on true e some more = record { task = z; between = record { front = []; back = zs; is = refl }; number = eqb-true z.id id e }
    on false e some more = (let r = more some in record { task = r.task; between = split-next z zs r.task r.between; number = r.number })

-- ---- its number is not another's

pub number-there : (front : List Task) (t : Task) (back : List Task) → 0 < times t.id (map task_id (front ++ t ∷ back))
number-there [] t back = omega (arith, hit-same t.id t.id refl)
number-there (z ∷ zs) t back = omega (arith, number-there zs t back)

-- no task before it has its number
number-before : (z : Task) (front : List Task) (t : Task) (back : List Task) → IsApart (map task_id (z ∷ (front ++ t ∷ back))) → z.id ≢ t.id
number-before z front t back apart e = absurd (omega (arith, apart t.id, hit-same t.id z.id (sym e), number-there front t back))

-- tasks with other numbers stay
pub change-none : (id : ℕ) (f : Task → Task) (ts : List Task) → times id (map task_id ts) ≡ 0 → map (change_of id f) ts ≡ ts
change-none id f [] none = refl
change-none id f (t ∷ ts) none =
    let test : eqb t.id id ≡ false = ne_eqb t.id id (λ e. absurd (omega (arith, none, hit-same id t.id (sym e)))) in
    λ i. cond (test i) (f t) t ∷ change-none id f ts (omega (arith, none)) i

-- a change of the task with the number of t is one of t
pub change-between : (f : Task → Task) (front : List Task) (t : Task) (back : List Task) → IsApart (map task_id (front ++ t ∷ back)) → map (change_of t.id f) (front ++ t ∷ back) ≡ front ++ f t ∷ back
change-between f [] t back apart =
    let test : eqb t.id t.id ≡ true = eq-eqb t.id t.id refl in
    λ i. cond (test i) (f t) t ∷ change-none t.id f back (omega (arith, apart t.id, hit-same t.id t.id refl)) i
change-between f (z ∷ zs) t back apart =
    let test : eqb z.id t.id ≡ false = ne_eqb z.id t.id (number-before z zs t back apart) in
    λ i. cond (test i) (f z) z ∷ change-between f zs t back (λ a. omega (arith, apart a)) i

pub work_of-between : (front : List Task) (t : Task) (back : List Task) → IsApart (map task_id (front ++ t ∷ back)) → work_of t.id (front ++ t ∷ back) ≡ t.queue
work_of-between [] t back apart = ap (λ b. cond b t.queue (work_of t.id back)) (eq-eqb t.id t.id refl)
work_of-between (z ∷ zs) t back apart =
    ap (λ b. cond b z.queue (work_of t.id (zs ++ t ∷ back))) (ne_eqb z.id t.id (number-before z zs t back apart)) ∙ work_of-between zs t back (λ a. omega (arith, apart a))

pub address-between : (front : List Task) (t : Task) (back : List Task) → IsApart (map task_id (front ++ t ∷ back)) → address_with task_address task_id (front ++ t ∷ back) t.id ≡ t.address
address-between [] t back apart = ap (λ b. cond b t.address (address_with task_address task_id back t.id)) (eq-eqb t.id t.id refl)
address-between (z ∷ zs) t back apart =
    ap (λ b. cond b z.address (address_with task_address task_id (zs ++ t ∷ back) t.id)) (ne_eqb z.id t.id (number-before z zs t back apart))
    ∙ address-between zs t back (λ a. omega (arith, apart a))

-- where no task has the number
pub address-none : (id : ℕ) (ts : List Task) → times id (map task_id ts) ≡ 0 → address_with task_address task_id ts id ≡ 0
address-none id [] none = refl
address-none id (t ∷ ts) none =
    ap (λ b. cond b t.address (address_with task_address task_id ts id)) (ne_eqb t.id id (λ e. absurd (omega (arith, none, hit-same id t.id (sym e))))) ∙ address-none id ts (omega (arith, none))

pub has_task-between : (front : List Task) (t : Task) (back : List Task) → has_task t.id (front ++ t ∷ back) ≡ true
has_task-between [] t back = ap (λ b. b || has_task t.id back) (eq-eqb t.id t.id refl)
has_task-between (z ∷ zs) t back = on (eqb z.id t.id) (has_task-between zs t back)
  where
    on : (b : Bool) → has_task t.id (zs ++ t ∷ back) ≡ true → (b || has_task t.id (zs ++ t ∷ back)) ≡ true
    on true more = refl
    on false more = more
