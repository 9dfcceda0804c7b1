-- Priorities that fall along the chain.
use Rattle.std.proofs.Common.{◌≡◌, ◌≢◌, ℕ, ◌<◌, ◌≤◌, List, [], ◌∷◌, cond, eqb, ◌||◌, Bool, true, false, refl, arith}
use Rattle.std.specs.List.{AllByRecursion, list_any}
use Rattle.std.proofs.lemmas.Bool.Decides.{nat_tests}
use Rattle.kernel_lists.specs.LinkedList.Places.{insert_after, without}
use Rattle.kernel_lists.specs.TaskBlock.TaskChain.{Fall, is_above, priority_in}
use Rattle.kernel_lists.proofs.LinkedList.AllMembers.{all-insert, all-without}

-- where one of falling priorities is above, the first is
first-above : (s : List ℕ) (t q : ℕ) (qs : List ℕ) → AllByRecursion (λ u. priority_in s u < priority_in s q) qs → list_any (is_above s t) (q ∷ qs) ≡ true → priority_in s t < priority_in s q
first-above s t q qs below e = on (is_above s t q) refl e
  where
    later : (qs : List ℕ) → AllByRecursion (λ u. priority_in s u < priority_in s q) qs → list_any (is_above s t) qs ≡ true → priority_in s t < priority_in s q
    later [] below e = cc
    later (r ∷ rs) below e = here (is_above s t r) refl e (later rs below.1)
      where
        here : (b : Bool) → is_above s t r ≡ b → (b || list_any (is_above s t) rs) ≡ true → (list_any (is_above s t) rs ≡ true → priority_in s t < priority_in s q) → priority_in s t < priority_in s q
        here true is e more = (let lt : priority_in s t < priority_in s r = grind (arith, nat_tests) in omega (arith, lt, below.0))
        here false out e more = more e

    on : (b : Bool) → is_above s t q ≡ b → (b || list_any (is_above s t) qs) ≡ true → priority_in s t < priority_in s q
    on true is e = grind (arith, nat_tests)
    on false out e = later qs below e

none-above : (s : List ℕ) (t : ℕ) (qs : List ℕ) → list_any (is_above s t) qs ≡ false → AllByRecursion (λ u. priority_in s u ≢ priority_in s t) qs → AllByRecursion (λ u. priority_in s u < priority_in s t) qs
none-above s t [] e other = tt
none-above s t (q ∷ qs) e other = on (is_above s t q) refl e (none-above s t qs)
  where
    on : (b : Bool) → is_above s t q ≡ b → (b || list_any (is_above s t) qs) ≡ false
        → (list_any (is_above s t) qs ≡ false → AllByRecursion (λ u. priority_in s u ≢ priority_in s t) qs → AllByRecursion (λ u. priority_in s u < priority_in s t) qs)
        → AllByRecursion (λ u. priority_in s u < priority_in s t) (q ∷ qs)
    on true is e more = cc
    on false out e more =
        let le : priority_in s q ≤ priority_in s t = grind (arith, nat_tests) in
        let ne : priority_in s q ≢ priority_in s t = other.0 in
        (omega (arith, le, ne), more e other.1)

pub Fall-insert : (s : List ℕ) (t : ℕ) (ts : List ℕ) → Fall s ts → AllByRecursion (λ u. priority_in s u ≢ priority_in s t) ts → Fall s (insert_after (is_above s t) t ts)
Fall-insert s t [] fall other = (tt, tt)
Fall-insert s t (q ∷ qs) fall other = on (list_any (is_above s t) (q ∷ qs)) refl (Fall-insert s t qs fall.1 other.1)
  where
    on : (b : Bool) → list_any (is_above s t) (q ∷ qs) ≡ b → Fall s (insert_after (is_above s t) t qs) → Fall s (cond b (q ∷ insert_after (is_above s t) t qs) (t ∷ q ∷ qs))
    on true some more = (all-insert (λ u. priority_in s u < priority_in s q) (is_above s t) t qs (first-above s t q qs fall.0 some) fall.0, more)
    on false none more = (none-above s t (q ∷ qs) none other, fall)

pub Fall-without : (s : List ℕ) (t : ℕ) (ts : List ℕ) → Fall s ts → Fall s (without t ts)
Fall-without s t [] fall = tt
Fall-without s t (q ∷ qs) fall =
    elim (eqb t q) as (λ b. Fall s (cond b qs (q ∷ without t qs))) [
      | true ↦ fall.1
      | false ↦ (all-without (λ u. priority_in s u < priority_in s q) t qs fall.0, Fall-without s t qs fall.1)
    ]

-- the same priorities fall
pub Fall-same : (s v : List ℕ) (ts : List ℕ) → AllByRecursion (λ u. priority_in v u ≡ priority_in s u) ts → Fall s ts → Fall v ts
Fall-same s v [] same fall = tt
Fall-same s v (q ∷ qs) same fall = (below qs same.1 fall.0, Fall-same s v qs same.1 fall.1)
  where
    below : (qs : List ℕ) → AllByRecursion (λ u. priority_in v u ≡ priority_in s u) qs → AllByRecursion (λ u. priority_in s u < priority_in s q) qs → AllByRecursion (λ u. priority_in v u < priority_in v q) qs
    below [] same h = tt
    below (r ∷ rs) same' h = (omega (arith, h.0, same'.0, same.0), below rs same'.1 h.1)
