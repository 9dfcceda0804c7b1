-- Refusals by tests in their order, and the tests of a guest.
use Rattle.std.proofs.Common.{◌≡◌, ℕ, ◌<◌, ◌≤◌, List, [], ◌∷◌, ◌++◌, cond, Bool, true, false, Option, Some, None, Result, Ok, Err, refl, ap, ◌∙◌, arith}
use Rattle.std.specs.List.{AllByRecursion}
use Rattle.std.proofs.lemmas.Bool.Decides.{nat_tests}
use Rattle.kernel_model.specs.KernelRecord.Lists.{Lists, has_task}
use Rattle.kernel_model.specs.KernelRecord.Task.{is_guest_id}
use Rattle.kernel_calls.specs.CallAnswers.Refusals.{answer_of, first_refusal}
use Rattle.kernel_calls.specs.CallAnswers.Guests.{GuestAt, guest_tests}
use Rattle.kernel_calls.proofs.CallAnswers.FoundTask.{TaskAt, found-there}

-- further tests
pub first_refusal-passed : (xs ys : List (Bool × ℕ)) → first_refusal xs ≡ None → first_refusal (xs ++ ys) ≡ first_refusal ys
first_refusal-passed [] ys e = refl
first_refusal-passed (x ∷ xs) ys e = on x.0 e (first_refusal-passed xs ys)
  where
    on : (b : Bool) → cond b (first_refusal xs) (Some x.1) ≡ None → (first_refusal xs ≡ None → first_refusal (xs ++ ys) ≡ first_refusal ys) → cond b (first_refusal (xs ++ ys)) (Some x.1) ≡ first_refusal ys
    on true e more = more e
    on false e more = cc

pub first_refusal-failed : (xs ys : List (Bool × ℕ)) (code : ℕ) → first_refusal xs ≡ Some code → first_refusal (xs ++ ys) ≡ Some code
first_refusal-failed [] ys code e = cc
first_refusal-failed (x ∷ xs) ys code e = on x.0 e (first_refusal-failed xs ys code)
  where
    on : (b : Bool) → cond b (first_refusal xs) (Some x.1) ≡ Some code → (first_refusal xs ≡ Some code → first_refusal (xs ++ ys) ≡ Some code) → cond b (first_refusal (xs ++ ys)) (Some x.1) ≡ Some code
    on true e more = more e
    on false e more = e

-- where all tests hold, those in front do
pub first_refusal-front : (xs ys : List (Bool × ℕ)) → first_refusal (xs ++ ys) ≡ None → first_refusal xs ≡ None
first_refusal-front [] ys e = refl
first_refusal-front (x ∷ xs) ys e = on x.0 e (first_refusal-front xs ys)
  where
    on : (b : Bool) → cond b (first_refusal (xs ++ ys)) (Some x.1) ≡ None → (first_refusal (xs ++ ys) ≡ None → first_refusal xs ≡ None) → cond b (first_refusal xs) (Some x.1) ≡ None
    on true e more = more e
    on false e more = cc

-- where there is no refusal all tests hold
pub passed-tests : (tests : List (Bool × ℕ)) → first_refusal tests ≡ None → AllByRecursion (λ test. test.0 ≡ true) tests
passed-tests [] e = tt
passed-tests (test ∷ tests) e = on test.0 refl e (passed-tests tests)
  where
    on : (b : Bool) → test.0 ≡ b → cond b (first_refusal tests) (Some test.1) ≡ None → (first_refusal tests ≡ None → AllByRecursion (λ test. test.0 ≡ true) tests) → AllByRecursion (λ test. test.0 ≡ true) (test ∷ tests)
    on true is e more = (is, more e)
    on false is e more = cc

-- ---- a guest

pub low-resident : (id : ℕ) → id < 5 → is_guest_id id ≡ false
low-resident id low = grind (arith, nat_tests)

pub high-guest : (id : ℕ) → 5 ≤ id → is_guest_id id ≡ true
high-guest id high = grind (arith, nat_tests)

pub no_task : (l : Lists) (id : ℕ) → has_task id l.tasks ≡ false → first_refusal (guest_tests l id) ≡ Some 2
no_task l id none = ap (λ b. cond b (cond (is_guest_id id) None (Some 14)) (Some 2)) none

tests : (l : Lists) (id a : ℕ) (b : Bool) → TaskAt l.tasks id a → is_guest_id id ≡ b → first_refusal (guest_tests l id) ≡ cond b None (Some 14)
tests l id a b t e = ap (λ c. cond c (cond (is_guest_id id) None (Some 14)) (Some 2)) (found-there l id a t) ∙ ap (λ c. cond c None (Some 14)) e

pub resident : (l : Lists) (id a : ℕ) → TaskAt l.tasks id a → is_guest_id id ≡ false → first_refusal (guest_tests l id) ≡ Some 14
resident l id a t e = tests l id a false t e

pub guest-at : (l : Lists) (id a : ℕ) → TaskAt l.tasks id a → is_guest_id id ≡ true → GuestAt l id a
guest-at l id a t e = record { front = t.front; task = t.task; back = t.back; is = t.is; number = t.number; at = t.at; accepted = tests l id a true t e }

pub task-at : (l : Lists) (id a : ℕ) → GuestAt l id a → TaskAt l.tasks id a
task-at l id a g = record { front = g.front; task = g.task; back = g.back; is = g.is; number = g.number; at = g.at }

-- the number of a guest that was found is one of a guest's
pub accepted-guest : (l : Lists) (id a : ℕ) → GuestAt l id a → is_guest_id id ≡ true
accepted-guest l id a g = on (has_task id l.tasks) (is_guest_id id) g.accepted
  where
    on : (b c : Bool) → ◌≡◌ {A = Option ℕ} (cond b (cond c None (Some 14)) (Some 2)) None → c ≡ true
    on true true e = refl
    on true false e = cc
    on false c e = cc

accepted-parts : (b c : Bool) → ◌≡◌ {A = Option ℕ} (cond b (cond c None (Some 14)) (Some 2)) None → (b ≡ true) × (c ≡ true)
accepted-parts true true e = (refl, refl)
accepted-parts true false e = cc
accepted-parts false c e = cc

pub guest-parts : (l : Lists) (id : ℕ) → first_refusal (guest_tests l id) ≡ None → (has_task id l.tasks ≡ true) × (is_guest_id id ≡ true)
guest-parts l id e = accepted-parts (has_task id l.tasks) (is_guest_id id) e

-- ---- answers

pub answer_of-ok : (o : Option ℕ) (u : Unit {0}) → ◌≡◌ {A = Result (Unit {0}) ℕ} (Ok u) (answer_of o) → o ≡ None
answer_of-ok None u e = refl
answer_of-ok (Some code) u e = cc

pub answer_of-err : (o : Option ℕ) (code : ℕ) → ◌≡◌ {A = Result (Unit {0}) ℕ} (Err code) (answer_of o) → o ≡ Some code
answer_of-err None code e = cc
answer_of-err (Some c) code e = cc
