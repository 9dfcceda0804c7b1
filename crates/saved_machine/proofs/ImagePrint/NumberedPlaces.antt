-- What is at the places of a list, with the numbers of its places.
use Rattle.std.proofs.Common.{◌≡◌, ◌∙◌, ℕ, zero, suc, ◌+◌, Option, None, List, [], ◌∷◌, ◌++◌, drop, refl, sym}
use Rattle.std.specs.Option.{option_to_list}
use Rattle.std.specs.Prelude.{slice_get, slice_index_or}
use Rattle.saved_machine.specs.ImagePrint.SavedImage.{at_place, with_places}

-- what is left behind one element of a list, if it has one there
pub drop-step : {A : Type 0} (i : ℕ) (xs : List A) → drop i xs ≡ option_to_list (slice_get xs i) ++ drop (suc i) xs
drop-step i [] = drop-none i ∙ sym (drop-none (suc i))
  where
    drop-none : {A : Type 0} (i : ℕ) → drop {A = A} i [] ≡ []
    drop-none zero = refl
    drop-none (suc i) = refl
drop-step zero (x ∷ xs) = refl
drop-step (suc i) (x ∷ xs) = drop-step i xs

module _ {A B : Type 0} (f : ℕ → A → B) where
  -- what is left behind one place
  pub numbered-step : (k i : ℕ) (xs : List (Option A)) → with_places f k (drop i xs) ≡ at_place f k (slice_index_or xs i None) ++ with_places f (k + 1) (drop (suc i) xs)
  numbered-step k zero [] = refl
  numbered-step k (suc i) [] = refl
  numbered-step k zero (x ∷ xs) = refl
  numbered-step k (suc i) (x ∷ xs) = numbered-step k i xs
