-- The number that the next program gets, and its priority.
use Rattle.std.proofs.Common.{◌≡◌, ℕ, zero, suc, ◌+◌, ◌-◌, ◌<◌, ◌≤◌, List, [], ◌∷◌, cond, eqb, not, Bool, true, false, Option, Some, None, inl, refl, ◌∙◌, arith}
use Rattle.std.specs.Prelude.{find, unwrap_or}
use Rattle.std.specs.List.{range_with_len}
use Rattle.kernel_lists.specs.TaskBlock.TaskChain.{lowest_free_id}
use Rattle.kernel_lists.specs.TaskBlock.Versions.{highest_id}
use Rattle.kernel_model.specs.KernelRecord.HoldsLists.{HoldsLists}
use Rattle.kernel_model.specs.KernelRecord.Lists.{Lists, has_task}
use Rattle.kernel_model.specs.KernelRecord.Versions.{highest_id_of}
use Rattle.kernel_model.proofs.KernelRecord.RootCounts.{highest-high, highest-low}
use Rattle.kernel_calls.specs.TaskCalls.CreateTask.{MayCreate, free_id}
use Rattle.kernel_calls.proofs.TaskCalls.ReadNumbers.{free-read, highest-read}
use Rattle.shell.specs.ShellPrograms.StartedProgram.{next_number}
use Rattle.kernel_calls.proofs.TaskCalls.CreationTests.{found-range}

-- a free number is one of a guest's
pub free-range : (l : Lists) (n : ℕ) → free_id l ≡ Some n → (5 ≤ n) × (n ≤ highest_id_of l.version)
free-range l n e =
    let r = found-range (λ i. not (has_task i l.tasks)) 5 (highest_id_of l.version - 4) n e in
    (r.0, omega (arith, r.1, highest-low l.version))

pub next-low : (l : Lists) → next_number l ≤ 64
next-low l = on (free_id l) refl
  where
    on : (o : Option ℕ) → free_id l ≡ o → unwrap_or o (highest_id_of l.version + 1) ≤ 64
    on None e = omega (arith, highest-high l.version)
    on (Some n) e = omega (arith, (free-range l n e).1, highest-high l.version)

module _ (s : List ℕ) (l : Lists) (h : HoldsLists s l) where
  pub highest-low_enough : (n : ℕ) → n ≡ highest_id s → n ≤ 63
  highest-low_enough n is = omega (arith, is, highest-read s l h, highest-high l.version)

  pub next-read : (n : ℕ) (o : Option ℕ) → n ≡ highest_id s → o ≡ lowest_free_id s → unwrap_or o (n + 1) ≡ next_number l
  next-read n o is found = λ i. unwrap_or ((found ∙ free-read s l h) i) ((is ∙ highest-read s l h) i + 1)

-- the shell may create a task of one module
pub may-create_program : (l : Lists) (m : ℕ) → MayCreate l 0 (m ∷ []) 1
may-create_program l m =
    record {
      number = inl refl;
      made_by = omega (arith, highest-low l.version);
      some_module = omega arith;
      most = elim (eqb l.version 2) as (λ b. 1 ≤ cond b 8 1) [ true ↦ omega arith | false ↦ omega arith ];
    }
