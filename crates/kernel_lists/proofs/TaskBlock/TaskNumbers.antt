-- Tasks found by their numbers.
use Rattle.std.proofs.Common.{◌≡◌, ◌≢◌, ℕ, List, [], ◌∷◌, ◌++◌, cond, eqb, Bool, true, false, Option, Some, None, refl, ap, ◌∙◌, subst, arith}
use Rattle.std.specs.List.{AllByRecursion}
use Rattle.std.proofs.lemmas.Bool.Decides.{nat_tests}
use Rattle.kernel_lists.specs.TaskBlock.TaskChain.{id_in, task_with}

-- the same numbers find the same task
pub task_with-same : (s v : List ℕ) (i : ℕ) (ts : List ℕ) → AllByRecursion (λ u. id_in v u ≡ id_in s u) ts → task_with v i ts ≡ task_with s i ts
task_with-same s v i [] same = refl
task_with-same s v i (u ∷ ts) same = ap (λ n. cond (eqb n i) (Some u) (task_with v i ts)) same.0 ∙ ap (cond (eqb (id_in s u) i) (Some u)) (task_with-same s v i ts same.1)

-- where a number finds none, each task has another
pub task_with-none : (s : List ℕ) (i : ℕ) (ts : List ℕ) → task_with s i ts ≡ None → AllByRecursion (λ u. id_in s u ≢ i) ts
task_with-none s i [] e = tt
task_with-none s i (u ∷ ts) e = on (eqb (id_in s u) i) refl e (task_with-none s i ts)
  where
    on : (b : Bool) → eqb (id_in s u) i ≡ b → ◌≡◌ {A = Option ℕ} (cond b (Some u) (task_with s i ts)) None → (task_with s i ts ≡ None → AllByRecursion (λ u. id_in s u ≢ i) ts) → AllByRecursion (λ u. id_in s u ≢ i) (u ∷ ts)
    on true t e more = cc
    on false t e more = (λ same. (let yes : eqb (id_in s u) i ≡ true = grind (arith, nat_tests) in cc), more e)

pub none-task_with : (s : List ℕ) (i : ℕ) (ts : List ℕ) → AllByRecursion (λ u. id_in s u ≢ i) ts → task_with s i ts ≡ None
none-task_with s i [] h = refl
none-task_with s i (u ∷ ts) h =
    let ne : id_in s u ≢ i = h.0 in
    let test : eqb (id_in s u) i ≡ false = grind (arith, nat_tests) in
    ap (λ b. cond b (Some u) (task_with s i ts)) test ∙ none-task_with s i ts h.1

-- a task with another number does not matter
pub task_with-other : (s : List ℕ) (i : ℕ) (xs : List ℕ) (t : ℕ) (ys : List ℕ) → id_in s t ≢ i → task_with s i (xs ++ t ∷ ys) ≡ task_with s i (xs ++ ys)
task_with-other s i [] t ys ne =
    let test : eqb (id_in s t) i ≡ false = grind (arith, nat_tests) in
    ap (λ b. cond b (Some t) (task_with s i ys)) test
task_with-other s i (x ∷ xs) t ys ne = ap (cond (eqb (id_in s x) i) (Some x)) (task_with-other s i xs t ys ne)

-- the task with the number is found, where no earlier one has it
pub task_with-here : (s : List ℕ) (i : ℕ) (xs : List ℕ) (t : ℕ) (ys : List ℕ) → AllByRecursion (λ u. id_in s u ≢ i) xs → id_in s t ≡ i → task_with s i (xs ++ t ∷ ys) ≡ Some t
task_with-here s i [] t ys none e =
    let test : eqb (id_in s t) i ≡ true = grind (arith, nat_tests) in
    ap (λ b. cond b (Some t) (task_with s i ys)) test
task_with-here s i (x ∷ xs) t ys none e =
    let ne : id_in s x ≢ i = none.0 in
    let test : eqb (id_in s x) i ≡ false = grind (arith, nat_tests) in
    ap (λ b. cond b (Some x) (task_with s i (xs ++ t ∷ ys))) test ∙ task_with-here s i xs t ys none.1 e

-- a task that is found is one of the list, and has the number
pub task_with-has : (P : ℕ → Type 0) (s : List ℕ) (i t : ℕ) (ts : List ℕ) → AllByRecursion P ts → task_with s i ts ≡ Some t → P t × (id_in s t ≡ i)
task_with-has P s i t [] all e = cc
task_with-has P s i t (u ∷ ts) all e = on (eqb (id_in s u) i) refl e (task_with-has P s i t ts all.1)
  where
    on : (b : Bool) → eqb (id_in s u) i ≡ b → cond b (Some u) (task_with s i ts) ≡ Some t → (task_with s i ts ≡ Some t → P t × (id_in s t ≡ i)) → P t × (id_in s t ≡ i)
    on true is e more =
        let same : u ≡ t = cc in
        let has : id_in s u ≡ i = grind (arith, nat_tests) in
        (subst P same all.0, subst (λ z. id_in s z ≡ i) same has)
    on false out e more = more e
