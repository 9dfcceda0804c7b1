-- What holds of all members of a list.
use Rattle.std.proofs.Common.{◌≡◌, ℕ, ◌<◌, List, [], ◌∷◌, ◌++◌, cond, eqb, ◌||◌, Bool, true, false, refl, sym, subst, arith}
use Rattle.std.specs.List.{AllByRecursion, list_any}
use Rattle.std.proofs.lemmas.Bool.Decides.{nat_tests}
use Rattle.word_store.specs.Count.{times}
use Rattle.kernel_lists.specs.LinkedList.Places.{has, insert_after, without}
use Rattle.word_store.proofs.Counts.{hit-same}
use Rattle.kernel_lists.proofs.LinkedList.Members.{has-here, has-there}

-- what holds of each member holds of one
pub all-has : (P : ℕ → Type 0) (p : ℕ) (ps : List ℕ) → AllByRecursion P ps → has p ps ≡ true → P p
all-has P p [] all some = cc
all-has P p (q ∷ qs) all some = on (eqb p q) refl some (all-has P p qs all.1)
  where
    on : (b : Bool) → eqb p q ≡ b → (b || has p qs) ≡ true → (has p qs ≡ true → P p) → P p
    on true e some more = (let same : p ≡ q = grind (arith, nat_tests) in subst P (sym same) all.0)
    on false e some more = more some

-- what holds of each member follows from being a member
pub all-members : (P : ℕ → Type 0) (cs : List ℕ) → ((c : ℕ) → has c cs ≡ true → P c) → AllByRecursion P cs
all-members P [] each = tt
all-members P (c ∷ cs) each = (each c (has-here c cs), all-members P cs (λ k some. each k (has-there k c cs some)))

pub all-map : (P Q : ℕ → Type 0) (ps : List ℕ) → ((p : ℕ) → 0 < times p ps → P p → Q p) → AllByRecursion P ps → AllByRecursion Q ps
all-map P Q [] each all = tt
all-map P Q (p ∷ ps) each all = (each p (omega (arith, hit-same p p refl)) all.0, all-map P Q ps (λ q some. each q (omega arith)) all.1)

pub all-insert : (P : ℕ → Type 0) (f : ℕ → Bool) (t : ℕ) (ts : List ℕ) → P t → AllByRecursion P ts → AllByRecursion P (insert_after f t ts)
all-insert P f t [] h all = (h, tt)
all-insert P f t (q ∷ qs) h all =
    elim (list_any f (q ∷ qs)) as (λ b. AllByRecursion P (cond b (q ∷ insert_after f t qs) (t ∷ q ∷ qs))) [
      | true ↦ (all.0, all-insert P f t qs h all.1)
      | false ↦ (h, all)
    ]

pub all-without : (P : ℕ → Type 0) (p : ℕ) (ps : List ℕ) → AllByRecursion P ps → AllByRecursion P (without p ps)
all-without P p [] all = tt
all-without P p (q ∷ qs) all = elim (eqb p q) as (λ b. AllByRecursion P (cond b qs (q ∷ without p qs))) [ true ↦ all.1 | false ↦ (all.0, all-without P p qs all.1) ]
