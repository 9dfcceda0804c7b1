-- What a call leaves, whether it is refused or not.
use Rattle.std.proofs.Common.{◌≡◌, ℕ, List, Bool, Some, None, Result, Err, refl, sym, ap, ◌∙◌, subst}
use Rattle.kernel_model.specs.KernelRecord.ChangedStore.{Knows}
use Rattle.kernel_model.specs.KernelRecord.HoldsLists.{HoldsLists}
use Rattle.kernel_model.specs.KernelRecord.Lists.{Lists}
use Rattle.kernel_model.proofs.KernelRecord.ChangedLists.{changed-none}
use Rattle.kernel_calls.specs.CallAnswers.Refusals.{first_refusal}
use Rattle.kernel_calls.specs.CallAnswers.CallChange.{CallChange, IsMade, Leaves, by_refusal, plain_answer, unless_refused}

module _ (s : List ℕ) (l : Lists) (tests : List (Bool × ℕ)) (made : CallChange) where
  -- refused with the code of the first test that fails, it leaves all as it was
  pub leaves-refused : (code : ℕ) → HoldsLists s l → first_refusal tests ≡ Some code → Leaves s s (Err code) (unless_refused tests l made)
  leaves-refused code h e = subst (λ o. Leaves s s (Err code) (by_refusal o l made)) (sym e) (record { lists = changed-none s l h; answered = refl })

  pub made-refused : (tells : List ℕ → Type 0) (code : ℕ) → HoldsLists s l → Knows tells l → first_refusal tests ≡ Some code → IsMade s s tells (Err code) (unless_refused tests l made)
  made-refused tells code h knows e =
      subst (λ o. IsMade s s tells (Err code) (by_refusal o l made)) (sym e) (record { leaves = record { lists = changed-none s l h; answered = refl }; knows = knows })

  -- where all hold, it leaves what it makes
  pub leaves-accepted : (t : List ℕ) (answer : Result ℕ ℕ) → first_refusal tests ≡ None → Leaves s t answer made → Leaves s t answer (unless_refused tests l made)
  leaves-accepted t answer e done = subst (λ o. Leaves s t answer (by_refusal o l made)) (sym e) done

  pub made-accepted : (t : List ℕ) (tells : List ℕ → Type 0) (answer : Result ℕ ℕ) → first_refusal tests ≡ None → IsMade s t tells answer made → IsMade s t tells answer (unless_refused tests l made)
  made-accepted t tells answer e done = subst (λ o. IsMade s t tells answer (by_refusal o l made)) (sym e) done

-- ---- codes that `?` hands on

pub handed-on : (s t : List ℕ) (tells : List ℕ → Type 0) (r : Result ℕ ℕ) (e code : ℕ) (m : CallChange) → r ≡ Err e → e ≡ code → IsMade s t tells (Err code) m → IsMade s t tells r m
handed-on s t tells r e code m is same h = subst (λ z. IsMade s t tells z m) (sym (is ∙ ap Err same)) h

-- from a part of a call that has no answer of its own
pub handed-plain : (s t : List ℕ) (tells : List ℕ → Type 0) (r : Result (Unit {0}) ℕ) (code : ℕ) (m : CallChange) → r ≡ Err code → IsMade s t tells (Err code) m → IsMade s t tells (plain_answer r) m
handed-plain s t tells r code m is h = subst (λ z. IsMade s t tells z m) (ap plain_answer (sym is)) h
