-- Numbers and priorities of tasks, where one comes in, goes out, or changes.
use Rattle.std.proofs.Common.{◌≡◌, ◌≢◌, ℕ, ◌<◌, List, [], ◌∷◌, ◌++◌, map, cond, eqb, ltb, ◌||◌, Bool, true, false, refl, sym, ap, subst, arith}
use Rattle.std.proofs.lemmas.Bool.{eqb-false, ltb-false, ltb-true, ne_eqb}
use Rattle.std.specs.List.{AllByRecursion, list_any}
use Rattle.word_store.specs.Count.{times}
use Rattle.kernel_lists.specs.LinkedList.Places.{insert_after}
use Rattle.word_store.proofs.Counts.{hit-other, times-append}
use Rattle.kernel_lists.proofs.LinkedList.MappedLists.{map-append}
use Rattle.kernel_model.specs.KernelRecord.Lists.{has_task}
use Rattle.kernel_model.specs.KernelRecord.Task.{Task, is_guest_id, task_id}
use Rattle.kernel_model.specs.KernelRecord.ValidTasks.{PrioritiesFall}
use Rattle.kernel_model.proofs.KernelRecord.AllThings.{all-beside, all-fail, all-from_both, all-inserted, all-put, any-between, any-found, any-put}

-- ---- numbers

pub has_task-same : (i : ℕ) (front : List Task) (t u : Task) (back : List Task) → u.id ≡ t.id → has_task i (front ++ u ∷ back) ≡ has_task i (front ++ t ∷ back)
has_task-same i front t u back e = any-put (λ z. eqb z.id i) front t u back (ap (λ n. eqb n i) e)

pub has_task-other : (i : ℕ) (front : List Task) (t : Task) (back : List Task) → t.id ≢ i → has_task i (front ++ t ∷ back) ≡ has_task i (front ++ back)
has_task-other i front t back ne = any-between (λ z. eqb z.id i) front t back (ne_eqb t.id i ne)

-- a guest's number is no resident's
pub guest-other : (t i : ℕ) → is_guest_id t ≡ true → is_guest_id i ≡ false → t ≢ i
guest-other t i guest none e = cc (ap is_guest_id e)

-- how often a number is in the chain
pub times-id : (a : ℕ) (front : List Task) (t : Task) (back : List Task) → times a (map task_id (front ++ t ∷ back)) ≡ times a (task_id t ∷ map task_id (front ++ back))
times-id a front t back =
    omega (
      arith,
      ap (times a) (map-append task_id front (t ∷ back)),
      ap (times a) (map-append task_id front back),
      times-append a (map task_id front) (map task_id (t ∷ back)),
      times-append a (map task_id front) (map task_id back),
    )

pub none-times_id : (i : ℕ) (ts : List Task) → has_task i ts ≡ false → times i (map task_id ts) ≡ 0
none-times_id i [] none = refl
none-times_id i (t ∷ ts) none = on (eqb t.id i) refl none (none-times_id i ts)
  where
    on : (b : Bool) → eqb t.id i ≡ b → (b || has_task i ts) ≡ false → (has_task i ts ≡ false → times i (map task_id ts) ≡ 0) → times i (map task_id (t ∷ ts)) ≡ 0
    on true e none more = cc
    on false e none more = omega (arith, more none, hit-other i t.id (λ same. eqb-false t.id i e (sym same)))

-- ---- priorities

pub falls-same : (front : List Task) (t u : Task) (back : List Task) → u.priority ≡ t.priority → PrioritiesFall (front ++ t ∷ back) → PrioritiesFall (front ++ u ∷ back)
falls-same [] t u back e fall = (subst (λ p. AllByRecursion (λ w. w.priority < p) back) (sym e) fall.0, fall.1)
falls-same (z ∷ zs) t u back e fall = (
  all-put (λ w. w.priority < z.priority) zs t back u (omega (arith, e, (all-here_below zs fall.0))) fall.0,
  falls-same zs t u back e fall.1,
)
  where
    all-here_below : (ys : List Task) → AllByRecursion (λ w. w.priority < z.priority) (ys ++ t ∷ back) → t.priority < z.priority
    all-here_below [] all = all.0
    all-here_below (y ∷ ys) all = all-here_below ys all.1

pub falls-beside : (front : List Task) (t : Task) (back : List Task) → PrioritiesFall (front ++ t ∷ back) → PrioritiesFall (front ++ back)
falls-beside [] t back fall = fall.1
falls-beside (z ∷ zs) t back fall = (all-beside (λ w. w.priority < z.priority) zs t back fall.0, falls-beside zs t back fall.1)

-- a task comes to its place by priority
abbrev above : Task → Task → Bool
above t u = ltb t.priority u.priority

first-above : (t q : Task) (qs : List Task) → AllByRecursion (λ w. w.priority < q.priority) qs → list_any (above t) (q ∷ qs) ≡ true → t.priority < q.priority
first-above t q qs fall some = on (above t q) refl some
  where
    on : (b : Bool) → above t q ≡ b → (b || list_any (above t) qs) ≡ true → t.priority < q.priority
    on true e some = ltb-true t.priority q.priority e
    on false e some =
        let r = any-found (above t) (λ w. w.priority < q.priority) qs some fall in
        omega (arith, ltb-true t.priority r.0.priority r.1, r.2)

pub falls-insert : (t : Task) (ts : List Task) → PrioritiesFall ts → AllByRecursion (λ u. u.priority ≢ t.priority) ts → PrioritiesFall (insert_after (above t) t ts)
falls-insert t [] fall differ = (tt, tt)
falls-insert t (q ∷ qs) fall differ = on (list_any (above t) (q ∷ qs)) refl (falls-insert t qs fall.1 differ.1)
  where
    lower : (u : Task) → above t u ≡ false → u.priority ≢ t.priority → u.priority < t.priority
    lower u low ne = omega (arith, ltb-false t.priority u.priority low, ne)

    on : (b : Bool) → list_any (above t) (q ∷ qs) ≡ b → PrioritiesFall (insert_after (above t) t qs) → PrioritiesFall (cond b (q ∷ insert_after (above t) t qs) (t ∷ q ∷ qs))
    on true some more = (all-inserted (λ u. u.priority < q.priority) (above t) t qs (first-above t q qs fall.0 some) fall.0, more)
    on false none more = (all-from_both (λ u. above t u ≡ false) (λ u. u.priority ≢ t.priority) (λ u. u.priority < t.priority) lower (q ∷ qs) (all-fail (above t) (q ∷ qs) none) differ, fall)
