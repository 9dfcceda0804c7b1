-- A number that never falls along a list, and a new element behind the last one whose number is not above its own.
use Rattle.std.proofs.Common.{◌≡◌, ℕ, zero, suc, ◌<◌, ◌≤◌, List, [], ◌∷◌, ◌++◌, length, get_or, eqb, nat_le, cond, Bool, true, false, ◌||◌, refl, sym, ap, ◌∙◌, arith, append-nil}
use Rattle.std.specs.List.{AllByRecursion, filter, list_any}
use Rattle.std.specs.List.Sorted.{IsNonDecreasingBy}
use Rattle.std.proofs.lemmas.Bool.Decides.{nat_tests}
use Rattle.kernel_lists.specs.LinkedList.Places.{insert_after}
use Rattle.kernel_lists.proofs.LinkedList.AllMembers.{all-insert, all-map}

-- the number of each element is at most that of each later one
abbrev pub Rises : (ℕ → ℕ) → List ℕ → Type 0
Rises n [] = Unit {0}
Rises n (q ∷ qs) = AllByRecursion (λ r. n q ≤ n r) qs × Rises n qs

all-from_index : (P : ℕ → Type 0) (xs : List ℕ) → ((k : ℕ) → k < length xs → P (get_or xs k 0)) → AllByRecursion P xs
all-from_index P [] h = tt
all-from_index P (x ∷ xs) h = (h 0 (omega arith), all-from_index P xs (λ k less. h (suc k) (omega arith)))

all-at_index : (P : ℕ → Type 0) (xs : List ℕ) (k d : ℕ) → AllByRecursion P xs → k < length xs → P (get_or xs k d)
all-at_index P [] k d all less = absurd (omega (arith, less))
all-at_index P (x ∷ xs) zero d all less = all.0
all-at_index P (x ∷ xs) (suc k) d all less = all-at_index P xs k d all.1 (omega arith)

pub Rises-from : (n : ℕ → ℕ) (xs : List ℕ) → IsNonDecreasingBy n xs → Rises n xs
Rises-from n [] h = tt
Rises-from n (x ∷ xs) h =
    (all-from_index (λ r. n x ≤ n r) xs (λ k less. h 0 (suc k) 0 (omega arith) (omega arith)), Rises-from n xs (λ i j d low less. h (suc i) (suc j) d (omega arith) (omega arith)))

pub Rises-to : (n : ℕ → ℕ) (xs : List ℕ) → Rises n xs → IsNonDecreasingBy n xs
Rises-to n [] r i j d low less = absurd (omega (arith, less))
Rises-to n (x ∷ xs) r zero zero d low less = omega arith
Rises-to n (x ∷ xs) r zero (suc j) d low less = all-at_index (λ y. n x ≤ n y) xs j d r.0 (omega arith)
Rises-to n (x ∷ xs) r (suc i) zero d low less = absurd (omega (arith, low))
Rises-to n (x ∷ xs) r (suc i) (suc j) d low less = Rises-to n xs r.1 i j d (omega arith) (omega arith)

-- the test for a number that is at most d
abbrev pub up_to : (ℕ → ℕ) → ℕ → ℕ → Bool
up_to n d q = nat_le (n q) d

-- where one passes, the first does, since it is the lowest
lowest : (n : ℕ → ℕ) (d q : ℕ) (qs : List ℕ) → AllByRecursion (λ r. n q ≤ n r) qs → list_any (up_to n d) (q ∷ qs) ≡ true → n q ≤ d
lowest n d q qs low some = on (nat_le (n q) d) refl some (λ more. among qs low more)
  where
    among : (rs : List ℕ) → AllByRecursion (λ r. n q ≤ n r) rs → list_any (up_to n d) rs ≡ true → n q ≤ d
    among [] all e = cc
    among (r ∷ rs) all e = here (nat_le (n r) d) refl e (λ more. among rs all.1 more)
      where
        here : (b : Bool) → nat_le (n r) d ≡ b → (b || list_any (up_to n d) rs) ≡ true → (list_any (up_to n d) rs ≡ true → n q ≤ d) → n q ≤ d
        here true t k more = (let le : n r ≤ d = grind (arith, nat_tests) in omega (arith, all.0, le))
        here false t k more = more k

    on : (b : Bool) → nat_le (n q) d ≡ b → (b || list_any (up_to n d) qs) ≡ true → (list_any (up_to n d) qs ≡ true → n q ≤ d) → n q ≤ d
    on true t k more = grind (arith, nat_tests)
    on false t k more = more k

-- where none passes, all are above
above : (n : ℕ → ℕ) (d : ℕ) (qs : List ℕ) → list_any (up_to n d) qs ≡ false → AllByRecursion (λ r. d < n r) qs
above n d [] none = tt
above n d (q ∷ qs) none = on (nat_le (n q) d) refl none (λ more. above n d qs more)
  where
    on : (b : Bool) → nat_le (n q) d ≡ b → (b || list_any (up_to n d) qs) ≡ false → (list_any (up_to n d) qs ≡ false → AllByRecursion (λ r. d < n r) qs)
        → AllByRecursion (λ r. d < n r) (q ∷ qs)
    on true t k more = cc
    on false t k more = (grind (arith, nat_tests), more k)

pub Rises-insert : (n : ℕ → ℕ) (d p : ℕ) (ps : List ℕ) → n p ≡ d → Rises n ps → Rises n (insert_after (up_to n d) p ps)
Rises-insert n d p [] own r = (tt, tt)
Rises-insert n d p (q ∷ qs) own r = on (list_any (up_to n d) (q ∷ qs)) refl (Rises-insert n d p qs own r.1)
  where
    on : (b : Bool) → list_any (up_to n d) (q ∷ qs) ≡ b → Rises n (insert_after (up_to n d) p qs) → Rises n (cond b (q ∷ insert_after (up_to n d) p qs) (p ∷ q ∷ qs))
    on true some more =
        (all-insert (λ r. n q ≤ n r) (up_to n d) p qs (omega (arith, own, lowest n d q qs r.0 some)) r.0, more)
    on false none more =
        (all-map (λ r. d < n r) (λ r. n p ≤ n r) (q ∷ qs) (λ x some h. omega (arith, own, h)) (above n d (q ∷ qs) none), r)

-- the elements with one number
abbrev pub with_number : (ℕ → ℕ) → ℕ → List ℕ → List ℕ
with_number n k xs = filter (λ q. eqb (n q) k) xs

none-with_number : (n : ℕ → ℕ) (d : ℕ) (qs : List ℕ) → AllByRecursion (λ r. d < n r) qs → with_number n d qs ≡ []
none-with_number n d [] all = refl
none-with_number n d (q ∷ qs) all =
    let no : eqb (n q) d ≡ false = (let high : d < n q = all.0 in grind (arith, nat_tests)) in
    ap (λ b. cond b (q ∷ with_number n d qs) (with_number n d qs)) no ∙ none-with_number n d qs all.1

-- the new element comes last among those with its number
pub with_number-insert : (n : ℕ → ℕ) (d p k : ℕ) (ps : List ℕ) → n p ≡ d → Rises n ps
    → with_number n k (insert_after (up_to n d) p ps) ≡ with_number n k ps ++ cond (eqb d k) (p ∷ []) []
with_number-insert n d p k [] own r = ap (λ z. cond (eqb z k) (p ∷ []) []) own
with_number-insert n d p k (q ∷ qs) own r = on (list_any (up_to n d) (q ∷ qs)) refl (with_number-insert n d p k qs own r.1)
  where
    new : List ℕ
    new = cond (eqb d k) (p ∷ []) []

    step : (b : Bool) (xs ys : List ℕ) → xs ≡ ys ++ new → cond b (q ∷ xs) xs ≡ cond b (q ∷ ys) ys ++ new
    step true xs ys e = ap (λ z. q ∷ z) e
    step false xs ys e = e

    front : (b : Bool) → eqb d k ≡ b → AllByRecursion (λ r. d < n r) (q ∷ qs)
        → cond b (p ∷ with_number n k (q ∷ qs)) (with_number n k (q ∷ qs)) ≡ with_number n k (q ∷ qs) ++ cond b (p ∷ []) []
    front true same high =
        let is : k ≡ d = grind (arith, nat_tests) in
        let none : with_number n k (q ∷ qs) ≡ [] = ap (λ z. with_number n z (q ∷ qs)) is ∙ none-with_number n d (q ∷ qs) high in
        ap (λ z. p ∷ z) none ∙ ap (λ z. z ++ p ∷ []) (sym none)
    front false same high = sym (append-nil (with_number n k (q ∷ qs)))

    on : (b : Bool) → list_any (up_to n d) (q ∷ qs) ≡ b → with_number n k (insert_after (up_to n d) p qs) ≡ with_number n k qs ++ new
        → with_number n k (cond b (q ∷ insert_after (up_to n d) p qs) (p ∷ q ∷ qs)) ≡ with_number n k (q ∷ qs) ++ new
    on true some more = step (eqb (n q) k) (with_number n k (insert_after (up_to n d) p qs)) (with_number n k qs) more
    on false none more =
        ap (λ z. cond (eqb z k) (p ∷ with_number n k (q ∷ qs)) (with_number n k (q ∷ qs))) own ∙ front (eqb d k) refl (above n d (q ∷ qs) none)

pub Rises-same : (n m : ℕ → ℕ) (xs : List ℕ) → AllByRecursion (λ x. n x ≡ m x) xs → Rises n xs → Rises m xs
Rises-same n m [] same r = tt
Rises-same n m (x ∷ xs) same r = (first xs same.1 r.0, Rises-same n m xs same.1 r.1)
  where
    first : (ys : List ℕ) → AllByRecursion (λ y. n y ≡ m y) ys → AllByRecursion (λ y. n x ≤ n y) ys → AllByRecursion (λ y. m x ≤ m y) ys
    first [] s low = tt
    first (y ∷ ys) s low = (omega (arith, s.0, low.0, same.0), first ys s.1 low.1)

pub with_number-same : (n m : ℕ → ℕ) (k : ℕ) (xs : List ℕ) → AllByRecursion (λ x. n x ≡ m x) xs → with_number n k xs ≡ with_number m k xs
with_number-same n m k [] same = refl
with_number-same n m k (x ∷ xs) same =
    ap (λ z. cond (eqb z k) (x ∷ with_number n k xs) (with_number n k xs)) same.0 ∙ ap (λ zs. cond (eqb (m x) k) (x ∷ zs) zs) (with_number-same n m k xs same.1)

up_to-any : (n m : ℕ → ℕ) (d : ℕ) (xs : List ℕ) → AllByRecursion (λ x. n x ≡ m x) xs → list_any (up_to n d) xs ≡ list_any (up_to m d) xs
up_to-any n m d [] same = refl
up_to-any n m d (x ∷ xs) same = ap (λ z. nat_le z d || list_any (up_to n d) xs) same.0 ∙ ap (λ b. nat_le (m x) d || b) (up_to-any n m d xs same.1)

pub insert_after-same : (n m : ℕ → ℕ) (d p : ℕ) (xs : List ℕ) → AllByRecursion (λ x. n x ≡ m x) xs → insert_after (up_to n d) p xs ≡ insert_after (up_to m d) p xs
insert_after-same n m d p [] same = refl
insert_after-same n m d p (x ∷ xs) same =
    ap (λ b. cond b (x ∷ insert_after (up_to n d) p xs) (p ∷ x ∷ xs)) (up_to-any n m d (x ∷ xs) same)
    ∙ ap (λ zs. cond (list_any (up_to m d) (x ∷ xs)) (x ∷ zs) (p ∷ x ∷ xs)) (insert_after-same n m d p xs same.1)
