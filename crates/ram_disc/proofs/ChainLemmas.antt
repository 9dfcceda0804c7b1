-- Chains of sectors.
use Rattle.std.proofs.Common.{◌≡◌, ◌≢◌, ℕ, zero, suc, ◌+◌, ◌<◌, ◌≤◌, List, [], ◌∷◌, ◌++◌, length, get_or, set, refl, sym, ap, ◌∙◌, subst, arith, inl, inr}
use Rattle.std.proofs.lemmas.Bool.{cases_eq}
use Rattle.std.proofs.lemmas.List.{get_or-set_other, get_or-set_same}
use Rattle.std.specs.List.{range_with_len}
use Rattle.word_store.specs.Count.{times}
use Rattle.word_store.proofs.Counts.{hit-other, hit-same}
use Rattle.ram_disc.specs.Chain.{chain_from}

pub length-chain : (links : List ℕ) (first n : ℕ) → length (chain_from links first n) ≡ n
unfolding chain_from
length-chain links first zero = refl
length-chain links first (suc n) = ap suc (length-chain links (get_or links first 0) n)

-- the element at a place of a list is counted
pub times-get_or : (xs : List ℕ) (i : ℕ) → i < length xs → 0 < times (get_or xs i 0) xs
times-get_or [] i h = absurd (omega arith)
times-get_or (x ∷ xs) zero h = omega (arith, hit-same x x refl)
times-get_or (x ∷ xs) (suc i) h = omega (arith, times-get_or xs i (omega arith))

-- what is counted is at some place
pub place-times : (a : ℕ) (xs : List ℕ) → 0 < times a xs → (i : ℕ) × (i < length xs) × (get_or xs i 0 ≡ a)
place-times a [] some = absurd (omega (arith, some))
place-times a (x ∷ xs) some =
    elim (cases_eq a x) [
      | inl e ↦ (zero, omega arith, sym e)
      | inr ne ↦ later (place-times a xs (omega (arith, some, hit-other a x ne)))
    ]
  where
    later : (i : ℕ) × (i < length xs) × (get_or xs i 0 ≡ a) → (i : ℕ) × (i < suc (length xs)) × (get_or (x ∷ xs) i 0 ≡ a)
    later w = (suc w.0, omega (arith, w.1), w.2)

-- where no element is counted twice, two places have two elements
pub places-differ : (xs : List ℕ) (i j : ℕ) → ((a : ℕ) → times a xs ≤ 1) → i < length xs → j < length xs → i ≢ j → get_or xs i 0 ≢ get_or xs j 0
places-differ [] i j once h k ne same = absurd (omega arith)
places-differ (x ∷ xs) zero zero once h k ne same = ne refl
places-differ (x ∷ xs) zero (suc j) once h k ne same =
    absurd (omega (arith, once x, hit-same x x refl, subst (λ z. 0 < times z xs) (sym same) (times-get_or xs j (omega arith))))
places-differ (x ∷ xs) (suc i) zero once h k ne same =
    absurd (omega (arith, once x, hit-same x x refl, subst (λ z. 0 < times z xs) same (times-get_or xs i (omega arith))))
places-differ (x ∷ xs) (suc i) (suc j) once h k ne same =
    places-differ xs i j (λ a. omega (arith, once a)) (omega arith) (omega arith) (λ e. ne (ap suc e)) same

-- a link of no sector of the chain changes nothing
pub chain-set-other : (links : List ℕ) (first n s t : ℕ) → times s (chain_from links first n) ≡ 0
    → chain_from (set links s t) first n ≡ chain_from links first n
unfolding chain_from
chain-set-other links first zero s t none = refl
chain-set-other links first (suc n) s t none =
    let differ : first ≢ s = λ e. absurd (omega (arith, none, hit-same s first (sym e))) in
    let same : get_or (set links s t) first 0 ≡ get_or links first 0 = get_or-set_other links s first t 0 differ in
    let rest : chain_from (set links s t) (get_or links first 0) n ≡ chain_from links (get_or links first 0) n =
    chain-set-other links (get_or links first 0) n s t (omega (arith, none)) in
    ap (λ z. first ∷ chain_from (set links s t) z n) same ∙ ap (λ zs. first ∷ zs) rest

-- the link of a sector of a chain names the next one
pub chain-next : (links : List ℕ) (first n k : ℕ) → suc k < n
    → get_or (chain_from links first n) (suc k) 0 ≡ get_or links (get_or (chain_from links first n) k 0) 0
unfolding chain_from
chain-next links first zero k h = absurd (omega arith)
chain-next links first (suc zero) k h = absurd (omega arith)
chain-next links first (suc (suc n)) zero h = refl
chain-next links first (suc (suc n)) (suc k) h = chain-next links (get_or links first 0) (suc n) k (omega arith)

-- a chain whose last sector's link is set to t goes on from t
pub chain-join : (links : List ℕ) (first n m t : ℕ) → ((a : ℕ) → times a (chain_from links first (suc n)) ≤ 1)
    → get_or (chain_from links first (suc n)) n 0 < length links
    → chain_from (set links (get_or (chain_from links first (suc n)) n 0) t) first (suc n + m)
    ≡ chain_from links first (suc n) ++ chain_from (set links (get_or (chain_from links first (suc n)) n 0) t) t m
unfolding chain_from
chain-join links first zero m t once inside =
    let e : suc zero + m ≡ suc m = omega arith in
    let same : get_or (set links first t) first 0 ≡ t = get_or-set_same links first t 0 inside in
    ap (chain_from (set links first t) first) e ∙ ap (λ z. first ∷ chain_from (set links first t) z m) same
chain-join links first (suc n) m t once inside =
    let last = get_or (chain_from links (get_or links first 0) (suc n)) n 0 in
    let e : suc (suc n) + m ≡ suc (suc n + m) = omega arith in
    let counted : 0 < times last (chain_from links (get_or links first 0) (suc n)) =
    times-get_or (chain_from links (get_or links first 0) (suc n)) n (omega (arith, length-chain links (get_or links first 0) (suc n))) in
    let differ : first ≢ last = λ e. absurd (omega (arith, counted, once last, hit-same last first (sym e))) in
    let same : get_or (set links last t) first 0 ≡ get_or links first 0 = get_or-set_other links last first t 0 differ in
    let rest = chain-join links (get_or links first 0) n m t (λ a. omega (arith, once a)) inside in
    ap (chain_from (set links last t) first) e ∙ ap (λ z. first ∷ chain_from (set links last t) z (suc n + m)) same ∙ ap (λ zs. first ∷ zs) rest

-- links that name the next sector each make one chain of all
pub chain-range : (links : List ℕ) (first n : ℕ) → ((k : ℕ) → k < first + n → get_or links k 0 ≡ k + 1) → chain_from links first n ≡ range_with_len first n
unfolding chain_from
chain-range links first zero each = refl
chain-range links first (suc n) each =
    ap (λ z. first ∷ chain_from links z n) (each first (omega arith))
    ∙ ap (λ zs. first ∷ zs) (chain-range links (first + 1) n (λ k h. each k (omega arith)))
