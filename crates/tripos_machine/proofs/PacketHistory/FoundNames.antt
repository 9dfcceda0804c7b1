-- A name is that of a used slot, or it has a place among those of the used ones.
use Rattle.std.proofs.Common.{◌≡◌, ℕ, zero, suc, ◌<◌, ◌≤◌, ◌⊎◌, inl, inr, true, List, [], ◌∷◌, length, map, get_or, Ordering, refl, ap, subst, arith}
use Rattle.std.specs.Cmp.Lexicographic.{slice_cmp}
use Rattle.std.specs.Ordering.{nat_cmp}
use Rattle.std.specs.declared.cmp.Ordering.TheVariants.{Less, Equal, Greater}
use Rattle.ram_disc.specs.Disc.{AreInOrder, is_before}
use Rattle.ram_disc.specs.Slots.{HasPlace, IsAt, name_in}
use Rattle.ram_disc.proofs.NameOrder.{all-get_or, is_before-cmp, is_before-greater, is_before-trans, same-cmp}

module _ (names : List (List ℕ)) (name : List ℕ) where
  abbrev IsAtSomePlace : List ℕ → Type 0
  IsAtSomePlace used = ((i : ℕ) × IsAt names used name i) ⊎ ((i : ℕ) × HasPlace names used name i)

  -- before this slot
  at-front : (u : ℕ) (us : List ℕ) → AreInOrder (map (name_in names) (u ∷ us)) → is_before name (name_in names u) ≡ true → HasPlace names (u ∷ us) name 0
  at-front u us order low =
      record {
        within = omega arith;
        before = λ k h. absurd (omega (arith, h));
        after = λ k h lt. later k lt;
      }
    where
      others : (us : List ℕ) (k : ℕ) → k < length us → get_or (map (name_in names) us) k [] ≡ name_in names (get_or us k 0)
      others [] k lt = absurd (omega arith)
      others (v ∷ vs) zero lt = refl
      others (v ∷ vs) (suc k) lt = others vs k (omega arith)

      lengths : (us : List ℕ) → length (map (name_in names) us) ≡ length us
      lengths [] = refl
      lengths (v ∷ vs) = ap suc (lengths vs)

      later : (k : ℕ) → k < length (u ∷ us) → is_before name (name_in names (get_or (u ∷ us) k 0)) ≡ true
      later zero lt = low
      later (suc k) lt =
          let lt' : k < length us = omega arith in
          is_before-trans name (name_in names u) (name_in names (get_or us k 0)) low
          (subst (λ n. is_before (name_in names u) n ≡ true) (others us k lt')
          (all-get_or (λ n. is_before (name_in names u) n ≡ true) (map (name_in names) us) k [] order.0 (omega (arith, lt', lengths us))))

  -- behind it
  further : (u : ℕ) (us : List ℕ) → is_before (name_in names u) name ≡ true → IsAtSomePlace us → IsAtSomePlace (u ∷ us)
  further u us high (inl at) = inl (suc at.0, record { within = omega (arith, at.1.within); is = at.1.is })
  further u us high (inr place) =
      inr (
        suc place.0,
        record {
          within = omega (arith, place.1.within);
          before = before;
          after = after;
        },
      )
    where
      before : (k : ℕ) → k < suc place.0 → is_before (name_in names (get_or (u ∷ us) k 0)) name ≡ true
      before zero h = high
      before (suc k) h = place.1.before k (omega arith)

      after : (k : ℕ) → suc place.0 ≤ k → k < length (u ∷ us) → is_before name (name_in names (get_or (u ∷ us) k 0)) ≡ true
      after zero h lt = absurd (omega arith)
      after (suc k) h lt = place.1.after k (omega arith) (omega arith)

  pub name-at-place : (used : List ℕ) → AreInOrder (map (name_in names) used) → IsAtSomePlace used
  name-at-place [] order = inr (0, record { within = omega arith; before = λ k h. absurd (omega (arith, h)); after = λ k h lt. absurd (omega (arith, lt)) })
  name-at-place (u ∷ us) order = on (slice_cmp nat_cmp (name_in names u) name) refl (name-at-place us order.1)
    where
      on : (o : Ordering) → slice_cmp nat_cmp (name_in names u) name ≡ o → IsAtSomePlace us → IsAtSomePlace (u ∷ us)
      on Less e more = further u us (is_before-cmp (name_in names u) name e) more
      on Equal e more = inl (0, record { within = omega arith; is = same-cmp (name_in names u) name e })
      on Greater e more = inr (0, at-front u us order (is_before-greater (name_in names u) name e))
