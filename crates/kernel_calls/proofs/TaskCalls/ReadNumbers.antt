-- What a store that holds lists says of the numbers that no task has, and of the version.
use Rattle.std.proofs.Common.{◌≡◌, ℕ, ◌-◌, true, not, Option, Some, None, cond, eqb, get_or, List, sym, ap, ◌∙◌, subst}
use Rattle.std.specs.Prelude.{find, is_none}
use Rattle.std.specs.List.{range_with_len}
use Rattle.std.proofs.lemmas.Bool.{eq-eqb}
use Rattle.kernel_lists.specs.TaskBlock.TaskChain.{lowest_free_id, task_with, tasks_in}
use Rattle.kernel_lists.specs.TaskBlock.Versions.{head_words, highest_id, most_modules}
use Rattle.kernel_model.specs.KernelRecord.HoldsLists.{HoldsLists}
use Rattle.kernel_model.specs.KernelRecord.Lists.{Lists, address_of_task, has_task}
use Rattle.kernel_model.specs.KernelRecord.Versions.{head_words_of, highest_id_of, most_modules_of}
use Rattle.kernel_model.proofs.KernelRecord.AllThings.{any-here}
use Rattle.kernel_model.proofs.KernelRecord.OwnedParts.{holds-parts}
use Rattle.kernel_model.proofs.KernelRecord.RootCounts.{root-held}
use Rattle.kernel_calls.proofs.CallAnswers.FoundTask.{Finds, find-task}
use Rattle.kernel_calls.specs.TaskCalls.CreateTask.{free_id, number_of}

module _ (s : List ℕ) (l : Lists) (h : HoldsLists s l) where
  pub highest-read : highest_id s ≡ highest_id_of l.version
  highest-read = (root-held s l (address_of_task l l.running) (holds-parts s l h.holds).root).highest

  -- the table has no task for a number exactly where there is none
  none-read : (i : ℕ) → is_none (task_with s i (tasks_in s)) ≡ not (has_task i l.tasks)
  none-read i = on (task_with s i (tasks_in s)) (find-task s l i h)
    where
      on : (o : Option ℕ) → Finds i l.tasks o → is_none o ≡ not (has_task i l.tasks)
      on None f = ap not (sym f)
      on (Some a) f = ap not (sym (subst (λ ts. has_task i ts ≡ true) (sym f.is) (any-here (λ u. eqb u.id i) f.front f.task f.back (eq-eqb f.task.id i f.number))))

  pub free-read : lowest_free_id s ≡ free_id l
  free-read = (λ j. find (λ i. none-read i j) (range_with_len 5 (highest-read j - 4)))

  pub number-free : (id : ℕ) → id ≡ 0 → number_of l id ≡ lowest_free_id s
  number-free id e = ap (number_of l) e ∙ sym free-read

  -- ---- the version

  version-read : get_or s 111 0 ≡ l.version
  version-read = (root-held s l (address_of_task l l.running) (holds-parts s l h.holds).root).numbers.1.1.1.0

  pub head-read : head_words s ≡ head_words_of l.version
  head-read = ap (λ w. cond (eqb w 2) 30 23) version-read

  pub most-read : most_modules s ≡ most_modules_of l.version
  most-read = ap (λ w. cond (eqb w 2) 8 1) version-read
