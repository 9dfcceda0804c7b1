-- The key with a number, and its place in the list.
use Rattle.std.proofs.Common.{◌≡◌, ℕ, zero, suc, ◌+◌, ◌-◌, ◌<◌, List, [], ◌∷◌, length, get_or, set, eqb, false, refl, ap, arith}
use Rattle.show_run.specs.ValueTries.Settings.{keys_with}

-- the place of a key is one less than its number
pub keys_with-set : (i step : ℕ) (keys : List (ℕ × ℕ)) (d : ℕ × ℕ) → i < length keys → keys_with (i + 1) step keys ≡ set keys i (step, (get_or keys i d).1)
keys_with-set i step [] d lt = absurd (omega (arith, lt))
keys_with-set zero step (key ∷ keys) d lt = refl
keys_with-set (suc i) step (key ∷ keys) d lt =
    let e : eqb (suc i + 1) 1 ≡ false = grind arith in
    let f : suc i + 1 - 1 ≡ i + 1 = omega arith in
    rw (e, f) (ap (λ ks. key ∷ ks) (keys_with-set i step keys d (omega (arith, lt))))

-- there is no such key
pub keys_with-none : (number step : ℕ) (keys : List (ℕ × ℕ)) → length keys < number → keys_with number step keys ≡ keys
keys_with-none number step [] lt = refl
keys_with-none number step (key ∷ keys) lt =
    let e : eqb number 1 ≡ false = grind (arith, lt) in
    rw e (ap (λ ks. key ∷ ks) (keys_with-none (number - 1) step keys (omega (arith, lt))))

pub keys_with-zero : (step : ℕ) (keys : List (ℕ × ℕ)) → keys_with 0 step keys ≡ keys
keys_with-zero step [] = refl
keys_with-zero step (key ∷ keys) = ap (λ ks. key ∷ ks) (keys_with-zero step keys)
