-- The task that was found is the only one with its number.
use Rattle.std.proofs.Common.{◌≡◌, ℕ, ◌<◌, Bool, true, false, Some, List, [], ◌∷◌, map, cond, sym, ap, subst, arith}
use Rattle.std.specs.Prelude.{find}
use Rattle.std.specs.List.{AllByRecursion}
use Rattle.word_store.specs.Count.{IsApart, times}
use Rattle.word_store.proofs.Counts.{hit-same}
use Rattle.kernel_model.specs.KernelRecord.Task.{Task, task_id}
use Rattle.kernel_model.proofs.KernelRecord.EachMember.{all-each}

times-found : (f : Task → Bool) (ts : List Task) (t : Task) → find f ts ≡ Some t → 0 < times t.id (map task_id ts)
times-found f [] t e = cc
times-found f (x ∷ xs) t e = on (f x) e (times-found f xs t)
  where
    on : (b : Bool) → cond b (Some x) (find f xs) ≡ Some t → (find f xs ≡ Some t → 0 < times t.id (map task_id xs)) → 0 < times t.id (map task_id (x ∷ xs))
    on true e more = (let same : x ≡ t = cc in omega (arith, hit-same t.id x.id (sym (ap task_id same))))
    on false e more = omega (arith, more e)

none-other : (id : ℕ) (ts : List Task) → times id (map task_id ts) ≡ 0 → AllByRecursion (λ u. u.id ≡ id → ⊥) ts
none-other id [] none = tt
none-other id (x ∷ xs) none = (λ e. absurd (omega (arith, none, hit-same id x.id (sym e))), none-other id xs (omega (arith, none)))

-- so what holds of it holds of each task with its number
pub only-found : (P : Task → Type 0) (f : Task → Bool) (ts : List Task) (t : Task) → find f ts ≡ Some t → IsApart (map task_id ts) → P t → AllByRecursion (λ u. u.id ≡ t.id → P u) ts
only-found P f [] t e apart h = tt
only-found P f (x ∷ xs) t e apart h = on (f x) e (λ later. only-found P f xs t later (λ a. omega (arith, apart a)) h)
  where
    on : (b : Bool) → cond b (Some x) (find f xs) ≡ Some t → (find f xs ≡ Some t → AllByRecursion (λ u. u.id ≡ t.id → P u) xs) → AllByRecursion (λ u. u.id ≡ t.id → P u) (x ∷ xs)
    on true e more =
        let same : x ≡ t = cc in (
          λ i. subst P (sym same) h,
          all-each (λ u. u.id ≡ t.id → ⊥) (λ u. u.id ≡ t.id → P u) (λ u none i. absurd (none i)) xs
              (none-other t.id xs (omega (arith, apart t.id, hit-same t.id x.id (sym (ap task_id same))))),
        )
    on false e more = (λ i. absurd (omega (arith, apart t.id, hit-same t.id x.id (sym i), times-found f xs t e)), more e)

-- what holds of all tasks holds of the one that was found
pub found-holds : (P : Task → Type 0) (f : Task → Bool) (ts : List Task) (t : Task) → find f ts ≡ Some t → AllByRecursion P ts → P t
found-holds P f [] t e all = cc
found-holds P f (x ∷ xs) t e all = on (f x) e (λ later. found-holds P f xs t later all.1)
  where
    on : (b : Bool) → cond b (Some x) (find f xs) ≡ Some t → (find f xs ≡ Some t → P t) → P t
    on true e more = (let same : x ≡ t = cc in subst P same all.0)
    on false e more = more e
