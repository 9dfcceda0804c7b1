-- The answers of the calls of coroutines, with codes in place of their reasons.
use Rattle.std.proofs.Common.{◌≡◌, ℕ, ◌||◌, List, [], ◌∷◌, cond, eqb, map, Bool, true, false, Some, None, Err, refl, ◌∙◌}
use Rattle.std.specs.Prelude.{not}
use Rattle.kernel_lists.specs.LinkedList.Places.{has}
use Rattle.kernel_lists.specs.Coroutines.CoroutineExchanges.{HoldsCoroutines, TaskCoroutines, current_of}
use Rattle.kernel_lists.specs.Coroutines.HeldCoroutines.{address_of}
use Rattle.kernel_lists.specs.Coroutines.Refusals as reasons
use Rattle.kernel_lists.specs.declared.coroutine_lists.ends.CoEnd.{CoEnd}
use Rattle.kernel_lists.specs.declared.coroutine_lists.ends.CoEnd.TheVariants.{HasParent, NoParent, Unknown}
use Rattle.kernel_lists.proofs.Coroutines.CoroutineLists.{Built}
use Rattle.kernel_lists.proofs.Coroutines.HeldCoroutineLists.{held-coroutines}
use Rattle.kernel_calls.specs.CallAnswers.Refusals.{answer_of, first_refusal}
use Rattle.kernel_calls.specs.CoroutineCalls.CallCo.{idle_tests}
use Rattle.kernel_calls.specs.CoroutineCalls.CallersCoroutines.{has_parent, is_one_of, is_within}
use Rattle.kernel_calls.specs.CoroutineCalls.CoWait.{wait_tests}
use Rattle.kernel_calls.specs.CoroutineCalls.Private.Refusals.{code_of, coded}
use Rattle.kernel_calls.specs.CoroutineCalls.ResumeCo.{resume_tests}

-- tests with the codes of their reasons
abbrev with_codes : List (Bool × CoEnd) → List (Bool × ℕ)
with_codes [] = []
with_codes (test ∷ tests) = (test.0, code_of test.1) ∷ with_codes tests

first-coded : (tests : List (Bool × CoEnd)) → coded (reasons.first_refusal tests) ≡ answer_of (first_refusal (with_codes tests))
first-coded [] = refl
first-coded (test ∷ tests) = on test.0 (first-coded tests)
  where
    on : (b : Bool) → coded (reasons.first_refusal tests) ≡ answer_of (first_refusal (with_codes tests))
        → coded (cond b (reasons.first_refusal tests) (Err test.1)) ≡ answer_of (cond b (first_refusal (with_codes tests)) (Some (code_of test.1)))
    on true more = more
    on false more = refl

module _ (s : List ℕ) (t : ℕ) (k : TaskCoroutines) (h : HoldsCoroutines s t k) where
  built : Built s t (map address_of k.list) k.active
  built = held-coroutines s t k.active k.list h.coroutines

  pub idle-coded : (c : ℕ) → coded (reasons.idle_answer s t c) ≡ answer_of (first_refusal (idle_tests c k))
  idle-coded c =
      (λ i. coded (reasons.first_refusal ((has c (built.list i), Unknown) ∷ (not (has c (built.active i)), HasParent) ∷ [])))
      ∙ first-coded ((is_one_of c k, Unknown) ∷ (not (has_parent c k), HasParent) ∷ [])

  pub resume-coded : (c : ℕ) → coded (reasons.resume_answer s t c) ≡ answer_of (first_refusal (resume_tests c k))
  resume-coded c =
      (λ i. coded (reasons.first_refusal
      ((has c (built.list i), Unknown) ∷ (not (eqb (h.coroutines.current i) 0), NoParent) ∷ (not (has c (built.active i)) || eqb (h.coroutines.current i) c, HasParent) ∷ [])))
      ∙ first-coded ((is_one_of c k, Unknown) ∷ (is_within k, NoParent) ∷ (not (has_parent c k) || eqb (current_of k) c, HasParent) ∷ [])

  pub wait-coded : coded (reasons.wait_answer s t) ≡ answer_of (first_refusal (wait_tests k))
  wait-coded = (λ i. coded (reasons.first_refusal ((not (eqb (h.coroutines.current i) 0), NoParent) ∷ []))) ∙ first-coded ((is_within k, NoParent) ∷ [])

  -- what the tests say that hold
  pub record IsIdle (c : ℕ) : Type 0 where
    pub known : is_one_of c k ≡ true
    pub alone : has_parent c k ≡ false

  pub idle-passed : (c : ℕ) → first_refusal (idle_tests c k) ≡ None → IsIdle c
  idle-passed c e = on (is_one_of c k) refl (has_parent c k) refl e
    where
      on : (x : Bool) → is_one_of c k ≡ x → (y : Bool) → has_parent c k ≡ y → first_refusal ((x, 21) ∷ (not y, 22) ∷ []) ≡ None → IsIdle c
      on true known false alone e = record { known = known; alone = alone }
      on true known true alone e = cc
      on false known y alone e = cc

  pub wait-passed : first_refusal (wait_tests k) ≡ None → is_within k ≡ true
  wait-passed e = on (is_within k) e
    where
      on : (x : Bool) → first_refusal ((x, 23) ∷ []) ≡ None → x ≡ true
      on true e = refl
      on false e = cc
