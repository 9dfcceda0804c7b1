-- Whether a module is there, and whether a task has it, as a store tells it.
use Rattle.std.proofs.Common.{◌≡◌, ℕ, ◌+◌, ◌<◌, List, [], ◌∷◌, length, map, drop, cond, eqb, not, ◌||◌, Bool, true, false, Some, None, Option, refl, sym, ap, ◌∙◌, subst, arith}
use Rattle.std.specs.List.{AllByRecursion, filter, list_any}
use Rattle.std.proofs.lemmas.Bool.{eqb-true, ne_eqb}
use Rattle.kernel_lists.specs.LinkedList.Places.{has}
use Rattle.kernel_lists.proofs.LinkedList.AllMembers.{all-has}
use Rattle.kernel_lists.specs.HunkLoader.HeldModules.{module_address}
use Rattle.kernel_lists.specs.TaskBlock.TaskChain.{tasks_in}
use Rattle.kernel_model.specs.KernelRecord.HoldsLists.{HoldsLists}
use Rattle.kernel_model.specs.KernelRecord.Lists.{Lists}
use Rattle.kernel_model.specs.KernelRecord.Recovered.{lists_in, task_in}
use Rattle.kernel_model.specs.KernelRecord.Task.{Task, further_modules, task_address}
use Rattle.kernel_model.specs.KernelRecord.ValidBlocks.{HasBlock, last_module_word}
use Rattle.kernel_model.specs.KernelRecord.ValidLists.{AreValid}
use Rattle.kernel_model.proofs.KernelRecord.DataInside.{HasBlock-inside}
use Rattle.kernel_model.proofs.KernelRecord.EachMember.{all-addresses, all-both, all-each}
use Rattle.kernel_model.proofs.KernelRecord.ListRanges.{TaskReads}
use Rattle.kernel_model.proofs.KernelRecord.RecoveredLists.{lists-back}
use Rattle.kernel_model.proofs.KernelRecord.TaskPlaces.{TaskPlace, task-places}
use Rattle.kernel_model.proofs.KernelRecord.WalkedLists.{tasks-read}
use Rattle.kernel_calls.specs.CallAnswers.Refusals.{first_refusal}
use Rattle.kernel_calls.proofs.CallAnswers.FoundTask.{reads}
use Rattle.kernel_calls.specs.CallAnswers.Modules.{has_module}
use Rattle.kernel_calls.specs.ModuleCalls.Private.ModuleFields.{IsTaskIn, module_fields}
use Rattle.kernel_calls.specs.ModuleCalls.UnloadModule.{is_in_use, use_tests}

-- ---- modules

-- no module is at 0
pub module-some : (l : Lists) (m : ℕ) → AreValid l → has_module l m ≡ true → 0 < m
module-some l m v some =
    all-has (λ n. 0 < n) m (map module_address l.modules)
    (all-addresses (λ n. 0 < n) module_address l.modules (all-each (λ x. HasBlock l.blocks x.address (last_module_word x)) (λ x. 0 < x.address) (λ x b. omega (arith, b.here)) l.modules v.modules)) some

-- ---- tasks

pub tasks-told : (s : List ℕ) (l : Lists) → HoldsLists s l → map (task_in s) (tasks_in s) ≡ l.tasks
unfolding lists_in
tasks-told s l h = ap (λ z. z.tasks) (lists-back s l h.valid h.size h.holds)

-- words that hold 0 are no modules
has-filtered : (m : ℕ) (ws : List ℕ) → 0 < m → has m (filter (λ w. not (eqb w 0)) ws) ≡ has m ws
has-filtered m [] some = refl
has-filtered m (w ∷ ws) some = on (eqb w 0) refl (has-filtered m ws some)
  where
    on : (b : Bool) → eqb w 0 ≡ b → has m (filter (λ w. not (eqb w 0)) ws) ≡ has m ws → has m (cond (not b) (w ∷ filter (λ w. not (eqb w 0)) ws) (filter (λ w. not (eqb w 0)) ws)) ≡ has m (w ∷ ws)
    on true e more = more ∙ ap (λ b. b || has m ws) (sym (ne_eqb m w (λ same. absurd (omega (arith, same, eqb-true w 0 e, some)))))
    on false e more = ap (λ b. eqb m w || b) more

pub use-told : (s : List ℕ) (l : Lists) (m : ℕ) → HoldsLists s l → 0 < m → list_any (λ t. has m (module_fields s t)) (tasks_in s) ≡ is_in_use l m
use-told s l m h some = among (tasks_in s) ∙ ap (list_any (λ t. has m t.modules)) (tasks-told s l h)
  where
    among : (ts : List ℕ) → list_any (λ t. has m (module_fields s t)) ts ≡ list_any (λ (t : Task). has m t.modules) (map (task_in s) ts)
    among [] = refl
    among (t ∷ ts) = λ i. sym (has-filtered m (module_fields s t) some) i || among ts i

-- the store has all words of each task block
pub each-inside : (s : List ℕ) (l : Lists) → HoldsLists s l → AllByRecursion (λ t. IsTaskIn s t.address) l.tasks
each-inside s l h =
    all-each (λ t. TaskPlace l t × TaskReads s l.version t) (λ t. IsTaskIn s t.address) inside l.tasks (all-both (TaskPlace l) (TaskReads s l.version) l.tasks (task-places l h.valid) (tasks-read s l h))
  where
    inside : (t : Task) → TaskPlace l t × TaskReads s l.version t → IsTaskIn s t.address
    inside t both =
        let last : ℕ = t.address + (22 + length (further_modules l.version t)) in
        omega (arith, both.1.size, h.size, both.0.high, HasBlock-inside l both.0.first both.0.last last h.valid.blocks both.0.block (omega (arith, both.0.high)))

pub tasks-inside : (s : List ℕ) (l : Lists) → HoldsLists s l → AllByRecursion (IsTaskIn s) (tasks_in s)
tasks-inside s l h = subst (AllByRecursion (IsTaskIn s)) (sym (reads s l h).tasks.chain) (all-addresses (IsTaskIn s) task_address l.tasks (each-inside s l h))

-- each task is what its words say
pub each-told : (s : List ℕ) (l : Lists) → HoldsLists s l → AllByRecursion (λ t. task_in s t.address ≡ t) l.tasks
each-told s l h = among l.tasks (ap (map (task_in s)) (sym (reads s l h).tasks.chain) ∙ tasks-told s l h)
  where
    among : (ts : List Task) → map (task_in s) (map task_address ts) ≡ ts → AllByRecursion (λ t. task_in s t.address ≡ t) ts
    among [] e = tt
    among (t ∷ ts) e = (ap (λ zs. head_of zs t) e, among ts (ap (λ zs. drop 1 zs) e))
      where
        head_of : List Task → Task → Task
        head_of [] none = none
        head_of (z ∷ zs) none = z

-- ---- the tests

pub tests-no_module : (l : Lists) (m : ℕ) → has_module l m ≡ false → first_refusal (use_tests l m) ≡ Some 17
tests-no_module l m e = ap (λ b. cond b (cond (not (is_in_use l m)) None (Some 26)) (Some 17)) e

pub tests-use : (l : Lists) (m : ℕ) (b : Bool) → has_module l m ≡ true → is_in_use l m ≡ b → first_refusal (use_tests l m) ≡ cond (not b) None (Some 26)
tests-use l m b e f = λ i. cond (e i) (cond (not (f i)) None (Some 26)) (Some 17)

-- where both hold
pub record IsUnused (l : Lists) (m : ℕ) : Type 0 where
  pub there : has_module l m ≡ true
  pub unused : is_in_use l m ≡ false

pub tests-passed : (l : Lists) (m : ℕ) → first_refusal (use_tests l m) ≡ None → IsUnused l m
tests-passed l m e = on (has_module l m) refl (is_in_use l m) refl e
  where
    on : (b : Bool) → has_module l m ≡ b → (c : Bool) → is_in_use l m ≡ c → ◌≡◌ {A = Option ℕ} (cond b (cond (not c) None (Some 26)) (Some 17)) None → IsUnused l m
    on true p false q e = record { there = p; unused = q }
    on true p true q e = cc
    on false p c q e = cc
