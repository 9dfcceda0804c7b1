-- Which task runs, and what the registers and the ticks are then.
use Rattle.std.proofs.Common.{◌≡◌, ◌≢◌, ◌↔◌, ℕ, ◌/◌, Bool, true, false, Option, Some, List, [], ◌∷◌, cond, eqb, get_or, leb, map, refl, sym, ap, ◌∙◌, subst}
use Rattle.std.specs.Prelude.{find}
use Rattle.std.specs.List.{AllByRecursion}
use Rattle.std.specs.Option.{option_map, option_map_or}
use Rattle.std.proofs.lemmas.Bool.{and_parts, eq-eqb, eqb-true, false≢true}
use Rattle.kernel_model.specs.KernelDispatch.Dispatch.{first_ready_block}
use Rattle.kernel_lists.specs.TaskBlock.TaskChain.{id_in, tasks_in}
use Rattle.kernel_model.specs.KernelRecord.Between.{FirstRuns, first_ready, is_ready}
use Rattle.kernel_model.specs.KernelRecord.HoldsLists.{HoldsLists}
use Rattle.kernel_model.specs.KernelRecord.Lists.{Lists}
use Rattle.kernel_model.specs.KernelRecord.Recovered.{lists_in, task_in}
use Rattle.kernel_model.specs.KernelRecord.Running.{RunsAs, RunsIf}
use Rattle.kernel_model.specs.KernelRecord.Task.{Task, task_address}
use Rattle.kernel_model.proofs.KernelRecord.EachMember.{all-both, all-each}

-- ---- the first ready task

-- its number is in its block
number-found : (s : List ℕ) (ts : List ℕ) → option_map_or (id_in s) (option_map task_address (find is_ready (map (task_in s) ts))) 0 ≡ option_map_or (λ t. t.id) (find is_ready (map (task_in s) ts)) 0
number-found s [] = refl
number-found s (t ∷ ts) = on (is_ready (task_in s t)) (number-found s ts)
  where
    on : (b : Bool) → option_map_or (id_in s) (option_map task_address (find is_ready (map (task_in s) ts))) 0 ≡ option_map_or (λ t. t.id) (find is_ready (map (task_in s) ts)) 0
        → option_map_or (id_in s) (option_map task_address (cond b (Some (task_in s t)) (find is_ready (map (task_in s) ts)))) 0
        ≡ option_map_or (λ t. t.id) (cond b (Some (task_in s t)) (find is_ready (map (task_in s) ts))) 0
    on true later = refl
    on false later = later

number-ready : (s : List ℕ) → option_map_or (id_in s) (first_ready_block (lists_in s)) 0 ≡ first_ready (lists_in s).tasks
unfolding lists_in
number-ready s = number-found s (tasks_in s)

pub some-ready : (s : List ℕ) (o : Option ℕ) (t w : ℕ) → o ≡ first_ready_block (lists_in s) → o ≡ Some t → w ≡ id_in s t → w ≡ first_ready (lists_in s).tasks
some-ready s o t w is some read = read ∙ ap (λ o. option_map_or (id_in s) o 0) (sym some ∙ is) ∙ number-ready s

-- ---- the states

abbrev pub Tells : ℕ → Task → Type 0
Tells r t = RunsAs r t × RunsIf r t

pub runs-first : (l : Lists) (r : ℕ) → r ≡ l.running → r ≡ first_ready l.tasks → AllByRecursion (Tells r) l.tasks → FirstRuns l
runs-first l r is first all = record {
  running = sym is ∙ first;
  alone = subst (λ z. AllByRecursion (RunsAs z) l.tasks) is (all-each (Tells r) (RunsAs r) (λ t h. h.0) l.tasks all);
  alive = subst (λ z. AllByRecursion (RunsIf z) l.tasks) is (all-each (Tells r) (RunsIf r) (λ t h. h.1) l.tasks all);
}

pub first-tells : (l : Lists) (r : ℕ) → r ≡ l.running → FirstRuns l → AllByRecursion (Tells r) l.tasks
first-tells l r is h = all-both (RunsAs r) (RunsIf r) l.tasks (subst (λ z. AllByRecursion (RunsAs z) l.tasks) (sym is) h.alone) (subst (λ z. AllByRecursion (RunsIf z) l.tasks) (sym is) h.alive)

-- ---- the ticks

period-is : (s : List ℕ) → get_or s 110 0 ≡ (lists_in s).period
unfolding lists_in
period-is s = refl

pub period-some : (s : List ℕ) (w : ℕ) → HoldsLists s (lists_in s) → w ≡ get_or s 110 0 → w ≢ 0
period-some s w h read none = absurd (false≢true (sym (ap (λ z. leb 1 z) (sym (period-is s) ∙ sym read ∙ none)) ∙ (and_parts (leb 1 (lists_in s).period) (leb (lists_in s).period 1000000) h.valid.numbers.period).0))

pub ticks-read : (s : List ℕ) (n tick period : ℕ) → tick ≡ get_or s 108 0 → period ≡ get_or s 110 0 → (eqb tick (n / period) ≡ true) ↔ ((lists_in s).tick ≡ n / (lists_in s).period)
unfolding lists_in
ticks-read s n tick period t p = (
  λ e. sym t ∙ eqb-true tick (n / period) e ∙ ap (λ z. n / z) p,
  λ e. eq-eqb tick (n / period) (t ∙ e ∙ ap (λ z. n / z) (sym p)),
)
