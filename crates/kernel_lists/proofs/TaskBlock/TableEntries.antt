-- What an entry of the task table says.
use Rattle.std.proofs.Common.{◌≡◌, ◌≢◌, ℕ, zero, suc, ◌+◌, ◌-◌, ◌<◌, ◌≤◌, List, [], ◌∷◌, get_or, cond, Option, Some, None, refl, sym, ap, ◌∙◌, arith}
use Rattle.std.specs.Prelude.{find, is_none, unwrap_or}
use Rattle.std.specs.List.{AllByRecursion, range_with_len}
use Rattle.kernel_lists.specs.LinkedList.Linked.{IsNode}
use Rattle.kernel_lists.specs.TaskBlock.Versions.{highest_id}
use Rattle.kernel_lists.specs.TaskBlock.TaskChain.{HasTasks, IsInTable, id_in, task_link, task_size, task_with, tasks_in}
use Rattle.kernel_lists.proofs.TaskBlock.TaskNumbers.{none-task_with, task_with-has}

-- no task has a number outside the table
pub out-of-table : (s : List ℕ) (i : ℕ) → HasTasks s → ((1 ≤ i) → (i ≤ highest_id s) → ⊥) → task_with s i (tasks_in s) ≡ None
out-of-table s i h out = none-task_with s i (tasks_in s) (others (tasks_in s) h.listed)
  where
    others : (ts : List ℕ) → AllByRecursion (IsInTable s) ts → AllByRecursion (λ u. id_in s u ≢ i) ts
    others [] listed = tt
    others (u ∷ ts) listed = ((λ e. out (omega (arith, e, listed.0.low)) (omega (arith, e, listed.0.high))), others ts listed.1)

-- where an entry is 0 no task has the number
pub no-entry : (s : List ℕ) (i : ℕ) → HasTasks s → 1 ≤ i → i ≤ highest_id s → get_or s (120 + i) 0 ≡ 0 → task_with s i (tasks_in s) ≡ None
no-entry s i h low high zero' = on (task_with s i (tasks_in s)) refl
  where
    on : (o : Option ℕ) → task_with s i (tasks_in s) ≡ o → o ≡ None
    on None e = refl
    on (Some t) e =
        let is : get_or s (120 + i) 0 ≡ t = h.table i low high ∙ ap (λ o. unwrap_or o 0) e in
        let node : IsNode s task_link task_size t = (task_with-has (IsNode s task_link task_size) s i t (tasks_in s) h.chain.nodes e).0 in
        absurd (omega (arith, is, zero', node.some))

-- else it leads to the task with the number
pub entry : (s : List ℕ) (i t : ℕ) → HasTasks s → 1 ≤ i → i ≤ highest_id s → t ≡ get_or s (120 + i) 0 → t ≢ 0 → task_with s i (tasks_in s) ≡ Some t
entry s i t h low high read some = on (task_with s i (tasks_in s)) refl
  where
    on : (o : Option ℕ) → task_with s i (tasks_in s) ≡ o → o ≡ Some t
    on None e = absurd (some (read ∙ h.table i low high ∙ ap (λ o. unwrap_or o 0) e))
    on (Some u) e = ap (λ z. Some z) (sym (read ∙ h.table i low high ∙ ap (λ o. unwrap_or o 0) e))

-- the lowest free number from i on, so many numbers
abbrev pub free_from : List ℕ → ℕ → ℕ → Option ℕ
free_from s i n = find (λ i. is_none (task_with s i (tasks_in s))) (range_with_len i n)

pub free-here : (s : List ℕ) (i n : ℕ) → HasTasks s → 1 ≤ i → i ≤ highest_id s → get_or s (120 + i) 0 ≡ 0 → 0 < n → free_from s i n ≡ Some i
free-here s i zero h low high read some = absurd (omega (arith, some))
free-here s i (suc n) h low high read some = ap (λ o. cond (is_none o) (Some i) (free_from s (i + 1) n)) (no-entry s i h low high read)

pub free-next : (s : List ℕ) (i n t : ℕ) → HasTasks s → 1 ≤ i → i ≤ highest_id s → t ≡ get_or s (120 + i) 0 → t ≢ 0 → 0 < n → free_from s i n ≡ free_from s (i + 1) (n - 1)
free-next s i zero t h low high read has some = absurd (omega (arith, some))
free-next s i (suc n) t h low high read has some =
    let one : suc n - 1 ≡ n = omega arith in
    ap (λ o. cond (is_none o) (Some i) (free_from s (i + 1) n)) (entry s i t h low high read has) ∙ ap (free_from s (i + 1)) (sym one)
