-- Places of lists: what is there, before it and after it.
use Rattle.std.proofs.Common.{◌≡◌, ℕ, zero, suc, Some, List, [], ◌∷◌, ◌++◌, take, drop, refl, ap, subst}
use Rattle.std.specs.Prelude.{slice_get}

module _ {X : Type 0} where
  -- the property holds of what is in each place
  abbrev pub Each : (X → Type 0) → List X → Type 0
  Each P xs = (k : ℕ) (x : X) → slice_get xs k ≡ Some x → P x

  pub each-cons : (P : X → Type 0) (y : X) (xs : List X) → P y → Each P xs → Each P (y ∷ xs)
  each-cons P y xs p h zero x e = let is : y ≡ x = cc e in subst P is p
  each-cons P y xs p h (suc k) x e = h k x e

  -- the first that is left stood in that place
  pub slice_get-drop : (n : ℕ) (xs : List X) → slice_get (drop n xs) 0 ≡ slice_get xs n
  slice_get-drop zero xs = refl
  slice_get-drop (suc n) [] = refl
  slice_get-drop (suc n) (x ∷ xs) = slice_get-drop n xs

  pub drop-one : (n : ℕ) (xs : List X) → drop 1 (drop n xs) ≡ drop (suc n) xs
  drop-one zero xs = refl
  drop-one (suc n) [] = refl
  drop-one (suc n) (x ∷ xs) = drop-one n xs

  pub slice_get-append : (xs ys : List X) (n : ℕ) (x : X) → slice_get xs n ≡ Some x → slice_get (xs ++ ys) n ≡ Some x
  slice_get-append [] ys n x e = cc e
  slice_get-append (z ∷ xs) ys zero x e = e
  slice_get-append (z ∷ xs) ys (suc n) x e = slice_get-append xs ys n x e

  pub take-suc : (n : ℕ) (xs : List X) (x : X) → slice_get xs n ≡ Some x → take (suc n) xs ≡ take n xs ++ x ∷ []
  take-suc zero [] x e = cc e
  take-suc zero (z ∷ xs) x e = let is : z ≡ x = cc e in ap (λ v. v ∷ []) is
  take-suc (suc n) [] x e = cc e
  take-suc (suc n) (z ∷ xs) x e = ap (λ l. z ∷ l) (take-suc n xs x e)
