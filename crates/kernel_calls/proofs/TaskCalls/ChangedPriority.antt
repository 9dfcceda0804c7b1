-- What another priority of a guest leaves.
use Rattle.std.proofs.Common.{◌≡◌, ◌≢◌, ℕ, ◌&&◌, List, [], ◌∷◌, ◌++◌, map, cond, eqb, not, Bool, true, false, Option, Some, None, refl, sym, ap, ◌∙◌, subst}
use Rattle.std.specs.Prelude.{find}
use Rattle.std.specs.List.{AllByRecursion, list_any}
use Rattle.std.proofs.lemmas.Bool.{and_parts, leb-true}
use Rattle.word_store.specs.Count.{IsApart}
use Rattle.kernel_lists.specs.LinkedList.Places.{has, without_first}
use Rattle.kernel_lists.specs.OwnedWords.Owned.{owners}
use Rattle.kernel_lists.specs.TaskBlock.Moves.{with_priority as priority_set, with_task as task_in}
use Rattle.kernel_lists.specs.TaskBlock.TaskChain.{tasks_in}
use Rattle.kernel_model.specs.KernelRecord.ChangedStore.{IsChanged}
use Rattle.kernel_model.specs.KernelRecord.HoldsLists.{HoldsLists}
use Rattle.kernel_model.specs.KernelRecord.Lists.{Lists}
use Rattle.kernel_model.specs.KernelRecord.MovedTask.{with_moved_task}
use Rattle.kernel_model.specs.KernelRecord.Owned.{owned}
use Rattle.kernel_model.specs.KernelRecord.Task.{task_id}
use Rattle.kernel_calls.specs.CallAnswers.Refusals.{first_refusal}
use Rattle.kernel_calls.specs.CallAnswers.Guests.{GuestAt, guest_tests}
use Rattle.kernel_calls.specs.TaskCalls.ChangePri.{is_priority, is_taken, moved, priority_tests, with_new_priority}
use Rattle.kernel_calls.proofs.CallAnswers.GuestTask.{guest-facts}
use Rattle.kernel_calls.proofs.TaskCalls.MovedWords.{in-chain, moved-changed, moved-owners}
use Rattle.kernel_calls.proofs.TaskCalls.Priorities.{moved-here, others-differ, untaken}
use Rattle.kernel_calls.proofs.CallAnswers.Refusals.{first_refusal-passed}

pub no_priority : (l : Lists) (id pri : ℕ) → is_priority pri ≡ false → first_refusal (priority_tests l id pri) ≡ Some 9
no_priority l id pri e = ap (λ b. cond b (cond (not (is_taken l id pri)) None (Some 8)) (Some 9)) e

pub priority_taken : (l : Lists) (id pri : ℕ) (taken : Bool) → is_priority pri ≡ true → is_taken l id pri ≡ taken → first_refusal (priority_tests l id pri) ≡ cond (not taken) None (Some 8)
priority_taken l id pri taken e f = ap (λ b. cond b (cond (not (is_taken l id pri)) None (Some 8)) (Some 9)) e ∙ ap (λ b. cond (not b) None (Some 8)) f

pub accepted-parts : (l : Lists) (id pri : ℕ) → first_refusal (priority_tests l id pri) ≡ None → (is_priority pri ≡ true) × (is_taken l id pri ≡ false)
accepted-parts l id pri e = on (is_priority pri) (is_taken l id pri) e
  where
    on : (b c : Bool) → ◌≡◌ {A = Option ℕ} (cond b (cond (not c) None (Some 8)) (Some 9)) None → (b ≡ true) × (c ≡ false)
    on true true e = cc
    on true false e = (refl, refl)
    on false c e = cc

module _ (s : List ℕ) (l : Lists) (id address pri : ℕ) (h : HoldsLists s l) (g : GuestAt l id address) where
  distinct : IsApart (map task_id (g.front ++ g.task ∷ g.back))
  distinct = subst (λ ts. IsApart (map task_id ts)) g.is h.valid.tasks.distinct

  pub refusal-is : first_refusal (guest_tests l id ++ priority_tests l id pri) ≡ first_refusal (priority_tests l id pri)
  refusal-is = first_refusal-passed (guest_tests l id) (priority_tests l id pri) g.accepted

  pub guest-in_chain : has address (tasks_in s) ≡ true
  guest-in_chain = subst (λ a. has a (tasks_in s) ≡ true) g.at (in-chain s l g.front g.task g.back pri h g.is)

  lists-are : with_new_priority id pri l ≡ with_moved_task pri g.task (g.front ++ g.back) l
  lists-are =
      ap (λ ts. moved pri (find (λ u. eqb u.id id) ts) (without_first (λ u. eqb u.id id) ts) l) g.is
      ∙ moved-here id pri g.front g.task g.back g.number distinct l

  pub priority-changed : first_refusal (priority_tests l id pri) ≡ None → IsChanged s (task_in (priority_set s address pri) address) (with_new_priority id pri l) []
  priority-changed e =
      let parts = accepted-parts l id pri e in
      let range = and_parts _ _ parts.0 in
      let unused : AllByRecursion (λ u. u.priority ≢ pri) (g.front ++ g.back) =
      untaken id pri g.front g.task g.back (others-differ id g.front g.task g.back g.number distinct)
      (subst (λ ts. list_any (λ u. eqb u.priority pri && not (eqb u.id id)) ts ≡ false) g.is parts.1)
      in
      subst (λ a. IsChanged s (task_in (priority_set s a pri) a) (with_new_priority id pri l) []) g.at
      (subst (λ m. IsChanged s (task_in (priority_set s g.task.address pri) g.task.address) m []) (sym lists-are)
      (moved-changed s l g.front g.task g.back pri h g.is (guest-facts s l id address h g).guest (leb-true 1 pri range.0) (leb-true pri 10000 range.1) unused))

  -- the same words are owned
  pub priority-owners : (a : ℕ) → owners a (owned (with_new_priority id pri l)) ≡ owners a (owned l)
  priority-owners a = ap (λ m. owners a (owned m)) lists-are ∙ moved-owners s l g.front g.task g.back pri h g.is a
