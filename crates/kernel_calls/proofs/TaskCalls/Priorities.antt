-- The tests of a priority, and the chain without the task that has a number.
use Rattle.std.proofs.Common.{◌≡◌, ◌≢◌, ℕ, List, [], ◌∷◌, ◌++◌, map, cond, eqb, not, ◌&&◌, ◌||◌, false, Some, refl, sym, ap, ◌∙◌, arith}
use Rattle.std.specs.Prelude.{find}
use Rattle.std.specs.List.{AllByRecursion, list_any}
use Rattle.std.proofs.lemmas.Bool.{eq-eqb, ne_eqb}
use Rattle.word_store.specs.Count.{IsApart, times}
use Rattle.kernel_lists.specs.LinkedList.Places.{without_first}
use Rattle.word_store.proofs.Elements.{all-front}
use Rattle.word_store.proofs.Counts.{hit-same}
use Rattle.kernel_lists.specs.TaskBlock.TaskChain.{id_in, is_priority_used, priority_in}
use Rattle.kernel_model.specs.KernelRecord.HoldsLists.{HoldsLists}
use Rattle.kernel_model.specs.KernelRecord.Lists.{Lists}
use Rattle.kernel_model.specs.KernelRecord.ReadsLists.{ReadsLists}
use Rattle.kernel_model.specs.KernelRecord.Task.{Task, task_address, task_id, task_words}
use Rattle.kernel_model.proofs.KernelRecord.AllThings.{all-beside, all-fail, all-from_both}
use Rattle.kernel_model.proofs.KernelRecord.ChainRules.{times-id}
use Rattle.kernel_model.proofs.KernelRecord.EachMember.{holds-each}
use Rattle.kernel_model.specs.KernelRecord.MovedTask.{with_moved_task}
use Rattle.kernel_calls.specs.TaskCalls.ChangePri.{is_taken, moved}
use Rattle.kernel_calls.proofs.CallAnswers.FoundTask.{reads}

-- the number and the priority of a task are in the store
abbrev HasNames : List ℕ → Task → Type 0
HasNames s t = (id_in s t.address ≡ t.id) × (priority_in s t.address ≡ t.priority)

taken-among : (s : List ℕ) (id pri : ℕ) (ts : List Task) → AllByRecursion (HasNames s) ts
    → list_any (λ a. eqb (priority_in s a) pri && not (eqb (id_in s a) id)) (map task_address ts) ≡ list_any (λ t. eqb t.priority pri && not (eqb t.id id)) ts
taken-among s id pri [] names = refl
taken-among s id pri (t ∷ ts) names = λ i. (eqb (names.0.1 i) pri && not (eqb (names.0.0 i) id)) || taken-among s id pri ts names.1 i

pub taken-used : (s : List ℕ) (l : Lists) (id pri : ℕ) → HoldsLists s l → is_priority_used s pri id ≡ is_taken l id pri
taken-used s l id pri h =
    let r : ReadsLists s l = reads s l h in
    ap (list_any (λ a. eqb (priority_in s a) pri && not (eqb (id_in s a) id))) r.tasks.chain
    ∙ taken-among s id pri l.tasks (holds-each task_address (task_words l.version) s (HasNames s) (λ t n own. (own.1.0, own.1.1.0)) l.tasks 0 r.held_tasks.holds.1)

-- ---- the others

module _ (id : ℕ) where
  -- none of them has the number
  others : (ts : List Task) → times id (map task_id ts) ≡ 0 → AllByRecursion (λ t. eqb t.id id ≡ false) ts
  others [] none = tt
  others (t ∷ ts) none = (ne_eqb t.id id (λ e. absurd (omega (arith, none, hit-same id t.id (sym e)))), others ts (omega (arith, none)))

  find-here : (front : List Task) (t : Task) (back : List Task) → t.id ≡ id → AllByRecursion (λ u. eqb u.id id ≡ false) front → find (λ u. eqb u.id id) (front ++ t ∷ back) ≡ Some t
  find-here [] t back e all = ap (λ b. cond b (Some t) (find (λ u. eqb u.id id) back)) (eq-eqb t.id id e)
  find-here (z ∷ zs) t back e all = ap (λ b. cond b (Some z) (find (λ u. eqb u.id id) (zs ++ t ∷ back))) all.0 ∙ find-here zs t back e all.1

  pub without-here : (front : List Task) (t : Task) (back : List Task) → t.id ≡ id → AllByRecursion (λ u. eqb u.id id ≡ false) front → without_first (λ u. eqb u.id id) (front ++ t ∷ back) ≡ front ++ back
  without-here [] t back e all = ap (λ b. cond b back (t ∷ without_first (λ u. eqb u.id id) back)) (eq-eqb t.id id e)
  without-here (z ∷ zs) t back e all = ap (λ b. cond b (zs ++ t ∷ back) (z ∷ without_first (λ u. eqb u.id id) (zs ++ t ∷ back))) all.0 ∙ ap (λ w. z ∷ w) (without-here zs t back e all.1)

  pub others-differ : (front : List Task) (t : Task) (back : List Task) → t.id ≡ id → IsApart (map task_id (front ++ t ∷ back)) → AllByRecursion (λ u. eqb u.id id ≡ false) (front ++ back)
  others-differ front t back e apart = others (front ++ back) (omega (arith, apart id, times-id id front t back, hit-same id t.id (sym e)))

-- no other task has a priority that is not taken
pub untaken : (id pri : ℕ) (front : List Task) (t : Task) (back : List Task) → AllByRecursion (λ u. eqb u.id id ≡ false) (front ++ back)
    → list_any (λ u. eqb u.priority pri && not (eqb u.id id)) (front ++ t ∷ back) ≡ false → AllByRecursion (λ u. u.priority ≢ pri) (front ++ back)
untaken id pri front t back differ none =
    all-from_both (λ u. eqb u.id id ≡ false) (λ u. (eqb u.priority pri && not (eqb u.id id)) ≡ false) (λ u. u.priority ≢ pri) other (front ++ back) differ
    (all-beside (λ u. (eqb u.priority pri && not (eqb u.id id)) ≡ false) front t back (all-fail (λ u. eqb u.priority pri && not (eqb u.id id)) (front ++ t ∷ back) none))
  where
    other : (u : Task) → eqb u.id id ≡ false → (eqb u.priority pri && not (eqb u.id id)) ≡ false → u.priority ≢ pri
    other u e f = λ same. cc (eq-eqb u.priority pri same, e, f)

-- the chain of the task with the number, and the others
module _ (id pri : ℕ) (front : List Task) (t : Task) (back : List Task) (e : t.id ≡ id) (apart : IsApart (map task_id (front ++ t ∷ back))) where
  before : AllByRecursion (λ u. eqb u.id id ≡ false) front
  before = all-front (λ u. eqb u.id id ≡ false) front back (others-differ id front t back e apart)

  pub moved-here : (l : Lists) → moved pri (find (λ u. eqb u.id id) (front ++ t ∷ back)) (without_first (λ u. eqb u.id id) (front ++ t ∷ back)) l ≡ with_moved_task pri t (front ++ back) l
  moved-here l = λ i. moved pri (find-here id front t back e before i) (without-here id front t back e before i) l
