-- Things with numbers, each in the place of its number.
use Rattle.std.proofs.Common.{◌≡◌, ℕ, suc, ◌+◌, ◌-◌, ◌<◌, ◌≤◌, List, [], ◌∷◌, ◌++◌, length, get_or, set, take, drop, drop-cons, replicate, cond, eqb, ◌||◌, Bool, true, false, Option, Some, None, refl, sym, ap, ◌∙◌, arith, inl, inr}
use Rattle.std.specs.List.{AllByRecursion, find, list_any}
use Rattle.std.specs.Option.{option_map, option_or}
use Rattle.std.proofs.lemmas.Bool.{cases_eq, cases_lt, eq-eqb, eqb-true, false≢true, ne_eqb}
use Rattle.std.proofs.lemmas.Option.{none-some, same_Some}
use Rattle.std.proofs.lemmas.List.{ext_get_or, get_or-set_other, get_or-replicate, get_or-set_same, get_or_past, length-replicate, length-set, take-append-drop, take_more}
use Rattle.std.proofs.lemmas.List.Folds.{find-append}
use Rattle.std.proofs.lemmas.List.FromFn.{get_or-map-range_with_len, length-map-range_with_len}
use Rattle.saved_machine.specs.MachineImage.Placed.{thing_numbered, placed}

-- in some place is a thing that passes the test
abbrev pub Holds : {B : Type 0} → (Option B → Bool) → List (Option B) → Type 0
Holds f xs = (i : ℕ) × (b : _) × (get_or xs i None ≡ Some b) × (f (Some b) ≡ true)

-- so it is where the test passes in some place, but in none that is free
pub any-where : {B : Type 0} (f : Option B → Bool) (xs : List (Option B)) → f None ≡ false → list_any f xs ≡ true → Holds f xs
any-where f [] none any = absurd (false≢true any)
any-where f (None ∷ xs) none any =
    let there = any-where f xs none (sym (ap (λ t. t || list_any f xs) none) ∙ any) in
    (suc there.0, there.1, there.2, there.3)
any-where {B} f (Some b ∷ xs) none any = on (f (Some b)) refl (λ e. any-where f xs none (sym (ap (λ t. t || list_any f xs) e) ∙ any))
  where
    on : (t : Bool) → f (Some b) ≡ t → (f (Some b) ≡ false → Holds f xs) → Holds f (Some b ∷ xs)
    on true e more = (0, b, refl, e)
    on false e more = (let there = more e in (suc there.0, there.1, there.2, there.3))

module _ {A B : Type 0} (number : A → ℕ) (thing : A → B) (places : ℕ) where
  abbrev has : ℕ → A → Bool
  has k x = eqb (number x) k

  abbrev Placed : List A → List (Option B)
  Placed xs = placed number thing places xs

  -- the numbers rise, from this one on, and have places
  abbrev pub Rise : ℕ → List A → Type 0
  Rise floor [] = Unit {0}
  Rise floor (x ∷ xs) = (floor ≤ number x) × (1 ≤ number x) × (number x ≤ places) × Rise (number x + 1) xs

  -- all numbers are below this one
  abbrev pub AreBelow : ℕ → List A → Type 0
  AreBelow floor xs = AllByRecursion (λ x. number x < floor) xs

  pub length-placed : (xs : List A) → length (Placed xs) ≡ places
  unfolding placed
  length-placed xs = length-map-range_with_len (λ i. thing_numbered number thing xs (i + 1)) 0 places

  pub placed-at : (xs : List A) (i : ℕ) → i < places → get_or (Placed xs) i None ≡ thing_numbered number thing xs (i + 1)
  unfolding placed
  placed-at xs i low = get_or-map-range_with_len (λ j. thing_numbered number thing xs (j + 1)) 0 places i i None low (omega arith)

  -- a number that is above all others is no other's
  find-above : (xs : List A) (k : ℕ) → AreBelow k xs → find (has k) xs ≡ None
  find-above [] k below = refl
  find-above (x ∷ xs) k below =
      ap (λ b. cond b (Some x) (find (has k) xs)) (ne_eqb (number x) k (λ e. omega (arith, e, below.0)))
      ∙ find-above xs k below.1

  find-behind : (xs ys : List A) (k : ℕ) → AreBelow k xs → find (has k) (xs ++ ys) ≡ find (has k) ys
  find-behind xs ys k below = find-append (has k) xs ys ∙ ap (λ o. option_or o (find (has k) ys)) (find-above xs k below)

  find-here : (a : A) (ys : List A) → find (has (number a)) (a ∷ ys) ≡ Some a
  find-here a ys = ap (λ b. cond b (Some a) (find (has (number a)) ys)) (eq-eqb (number a) (number a) refl)

  -- what is found has the number
  find-number : (xs : List A) (k : ℕ) (x : A) → find (has k) xs ≡ Some x → number x ≡ k
  find-number [] k x e = absurd (none-some x e)
  find-number (y ∷ ys) k x e = on (has k y) refl e (find-number ys k x)
    where
      on : (b : Bool) → has k y ≡ b → cond b (Some y) (find (has k) ys) ≡ Some x → (find (has k) ys ≡ Some x → number x ≡ k) → number x ≡ k
      on true is same more = ap number (sym (same_Some y x same)) ∙ eqb-true (number y) k is
      on false is same more = more same

  -- the place of a number that is above all others is free
  pub placed-free : (xs : List A) (a : A) → AreBelow (number a) xs → 1 ≤ number a → number a ≤ places → get_or (Placed xs) (number a - 1) None ≡ None
  placed-free xs a below low high =
      placed-at xs (number a - 1) (omega arith)
      ∙ ap (thing_numbered number thing xs) (omega arith)
      ∙ ap (option_map thing) (find-above xs (number a) below)

  -- it has the thing of its number, whatever comes behind
  pub placed-there : (xs ys : List A) (a : A) → AreBelow (number a) xs → 1 ≤ number a → number a ≤ places
      → get_or (Placed (xs ++ a ∷ ys)) (number a - 1) None ≡ Some (thing a)
  placed-there xs ys a below low high =
      placed-at (xs ++ a ∷ ys) (number a - 1) (omega arith)
      ∙ ap (thing_numbered number thing (xs ++ a ∷ ys)) (omega arith)
      ∙ ap (option_map thing) (find-behind xs (a ∷ ys) (number a) below ∙ find-here a ys)

  -- one thing more, with a number that is above all others
  pub placed-more : (xs : List A) (a : A) → AreBelow (number a) xs → 1 ≤ number a → number a ≤ places
      → Placed (xs ++ a ∷ []) ≡ set (Placed xs) (number a - 1) (Some (thing a))
  placed-more xs a below low high =
      ext_get_or None (Placed (xs ++ a ∷ [])) (set (Placed xs) (number a - 1) (Some (thing a)))
      (length-placed (xs ++ a ∷ []) ∙ sym (length-set (Placed xs) (number a - 1) (Some (thing a)) ∙ length-placed xs))
      (λ i inside. each i (omega (arith, inside, length-placed (xs ++ a ∷ []))))
    where
      or-none : (o : Option A) → option_or o None ≡ o
      or-none None = refl
      or-none (Some x) = refl

      others : (i : ℕ) → (i ≡ number a - 1 → ⊥) → find (has (i + 1)) (xs ++ a ∷ []) ≡ find (has (i + 1)) xs
      others i other =
          find-append (has (i + 1)) xs (a ∷ [])
          ∙ ap (λ b. option_or (find (has (i + 1)) xs) (cond b (Some a) None)) (ne_eqb (number a) (i + 1) (λ e. other (omega (arith, e))))
          ∙ or-none (find (has (i + 1)) xs)

      each : (i : ℕ) → i < places → get_or (Placed (xs ++ a ∷ [])) i None ≡ get_or (set (Placed xs) (number a - 1) (Some (thing a))) i None
      each i inside =
          elim (cases_eq i (number a - 1)) [
            | inl here ↦
                ap (λ j. get_or (Placed (xs ++ a ∷ [])) j None) here
                ∙ placed-there xs [] a below low high
                ∙ sym (ap (λ j. get_or (set (Placed xs) (number a - 1) (Some (thing a))) j None) here
                ∙ get_or-set_same (Placed xs) (number a - 1) (Some (thing a)) None (omega (arith, length-placed xs, low, high)))
            | inr other ↦
                placed-at (xs ++ a ∷ []) i inside
                ∙ ap (option_map thing) (others i other)
                ∙ sym (placed-at xs i inside)
                ∙ sym (get_or-set_other (Placed xs) (number a - 1) i (Some (thing a)) None other)
          ]

  -- what is in a place stays there, whatever comes behind
  pub placed-stays : (xs ys : List A) (i : ℕ) (b : B) → get_or (Placed xs) i None ≡ Some b → get_or (Placed (xs ++ ys)) i None ≡ Some b
  placed-stays xs ys i b e =
      elim (cases_lt i places) [
        | inl inside ↦
            placed-at (xs ++ ys) i inside
            ∙ ap (option_map thing) (find-append (has (i + 1)) xs ys)
            ∙ on (find (has (i + 1)) xs) (sym (placed-at xs i inside) ∙ e)
        | inr past ↦ absurd (none-some b (sym (get_or_past (Placed xs) i None (omega (arith, past, length-placed xs))) ∙ e))
      ]
    where
      on : (o : Option A) → option_map thing o ≡ Some b → option_map thing (option_or o (find (has (i + 1)) ys)) ≡ Some b
      on None f = absurd (none-some b f)
      on (Some x) f = f

  lower : (xs : List A) (k n : ℕ) (x : A) → AreBelow k xs → find (has n) xs ≡ Some x → n < k
  lower [] k n x below e = absurd (none-some x e)
  lower (y ∷ ys) k n x below e = on (has n y) refl e (lower ys k n x below.1)
    where
      on : (t : Bool) → has n y ≡ t → cond t (Some y) (find (has n) ys) ≡ Some x → (find (has n) ys ≡ Some x → n < k) → n < k
      on true is f more = omega (arith, below.0, eqb-true (number y) n is)
      on false is f more = more f

  -- what is in a place has a number below that which is above all others
  pub placed-below : (xs : List A) (k i : ℕ) (b : B) → AreBelow k xs → get_or (Placed xs) i None ≡ Some b → i + 1 < k
  placed-below xs k i b below e =
      elim (cases_lt i places) [
        | inl inside ↦ on (find (has (i + 1)) xs) refl (sym (placed-at xs i inside) ∙ e)
        | inr past ↦ absurd (none-some b (sym (get_or_past (Placed xs) i None (omega (arith, past, length-placed xs))) ∙ e))
      ]
    where
      on : (o : Option A) → find (has (i + 1)) xs ≡ o → option_map thing o ≡ Some b → i + 1 < k
      on None is f = absurd (none-some b f)
      on (Some x) is f = lower xs k (i + 1) x below is

  -- without things all places are free
  pub placed-none : Placed [] ≡ replicate places None
  placed-none =
      ext_get_or None (Placed []) (replicate places None) (length-placed [] ∙ sym (length-replicate places None)) (λ i inside.
      placed-at [] i (omega (arith, inside, length-placed [])) ∙ sym (get_or-replicate places i None None (omega (arith, inside, length-placed []))))

  -- those before one of them have lower numbers
  pub rise-between : (floor : ℕ) (xs ys : List A) (a : A) → Rise floor (xs ++ a ∷ ys)
      → (floor ≤ number a) × AreBelow (number a) xs × (1 ≤ number a) × (number a ≤ places)
  rise-between floor [] ys a r = (r.0, tt, r.1, r.2)
  rise-between floor (x ∷ xs) ys a r =
      let more = rise-between (number x + 1) xs ys a r.3 in
      (omega (arith, r.0, more.0), (omega (arith, more.0), more.1), more.2, more.3)

-- ---- a list at an element

-- a list is what is before an element, the element, and what is behind it
pub split-at : {A : Type 0} (xs : List A) (i : ℕ) (a : A) → i < length xs → a ≡ get_or xs i a → xs ≡ take i xs ++ a ∷ drop (suc i) xs
split-at xs i a low is =
    sym (take-append-drop i xs)
    ∙ ap (λ ys. take i xs ++ ys) (drop-cons xs i a low ∙ ap (λ b. b ∷ drop (suc i) xs) (sym is))

-- and up to the element it is what is before it, and the element
pub take-at : {A : Type 0} (xs : List A) (i : ℕ) (a : A) → i < length xs → a ≡ get_or xs i a → take (i + 1) xs ≡ take i xs ++ a ∷ []
take-at xs i a low is = take_more xs i a low ∙ ap (λ b. take i xs ++ b ∷ []) (sym is)
