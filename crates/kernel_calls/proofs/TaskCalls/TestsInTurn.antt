-- Tests one after the other, and calls that are refused by the same ones.
use Rattle.std.proofs.Common.{◌≡◌, ℕ, List, [], ◌∷◌, ◌++◌, cond, Bool, true, false, Option, Some, None, Result, Ok, Err, refl, ◌∙◌}
use Rattle.kernel_model.specs.KernelRecord.Lists.{Lists}
use Rattle.kernel_calls.specs.CallAnswers.CallChange.{CallChange, IsMade, by_refusal, unless_refused}
use Rattle.kernel_calls.specs.CallAnswers.Refusals.{first_refusal}

-- tests in two parts
pub all-passed : (xs ys : List (Bool × ℕ)) → first_refusal (xs ++ ys) ≡ None → (first_refusal xs ≡ None) × (first_refusal ys ≡ None)
all-passed [] ys e = (refl, e)
all-passed (x ∷ xs) ys e = on x.0 e (all-passed xs ys)
  where
    on : (b : Bool) → cond b (first_refusal (xs ++ ys)) (Some x.1) ≡ None → (first_refusal (xs ++ ys) ≡ None → (first_refusal xs ≡ None) × (first_refusal ys ≡ None))
        → (cond b (first_refusal xs) (Some x.1) ≡ None) × (first_refusal ys ≡ None)
    on true e more = more e
    on false e more = cc

-- what refuses one call refuses another one with the same tests
pub refused-alike : (s v : List ℕ) (tells : List ℕ → Type 0) (l : Lists) (tests : List (Bool × ℕ)) (code a : ℕ) (made other : CallChange) → made.answer ≡ Ok a
    → IsMade s v tells (Err code) (unless_refused tests l made) → IsMade s v tells (Err code) (unless_refused tests l other)
refused-alike s v tells l tests code a made other is = on (first_refusal tests)
  where
    on : (o : Option ℕ) → IsMade s v tells (Err code) (by_refusal o l made) → IsMade s v tells (Err code) (by_refusal o l other)
    on None k = (let wrong : ◌≡◌ {A = Result ℕ ℕ} (Err code) (Ok a) = k.leaves.answered ∙ is in cc)
    on (Some n) k = k
