-- Lists of things that have addresses, and the lists of their addresses.
use Rattle.std.proofs.Common.{◌≡◌, ℕ, List, [], ◌∷◌, ◌++◌, map, cond, eqb, ◌||◌, Bool, true, false, refl, ap, ◌∙◌}
use Rattle.std.specs.List.{AllByRecursion, list_any}
use Rattle.kernel_lists.specs.LinkedList.Chain.{last_cell}
use Rattle.kernel_lists.specs.LinkedList.Places.{cell_after, insert_after, without, without_first}

module _ {X : Type 0} (address : X → ℕ) where
  pub map-append : (xs ys : List X) → map address (xs ++ ys) ≡ map address xs ++ map address ys
  map-append [] ys = refl
  map-append (x ∷ xs) ys = ap (λ z. address x ∷ z) (map-append xs ys)

  pub last_cell-map : (link : ℕ → ℕ) (at : ℕ) (xs : List X) → last_cell link at (map address xs) ≡ last_cell (λ x. link (address x)) at xs
  last_cell-map link at [] = refl
  last_cell-map link at (x ∷ xs) = last_cell-map link (link (address x)) xs

  pub cell_after-map : (f : ℕ → Bool) (link : ℕ → ℕ) (at : ℕ) (xs : List X) → cell_after f link at (map address xs) ≡ cell_after (λ x. f (address x)) (λ x. link (address x)) at xs
  cell_after-map f link at [] = refl
  cell_after-map f link at (x ∷ xs) = cell_after-map f link (cond (f (address x)) (link (address x)) at) xs

  list_any-map : (f : ℕ → Bool) (xs : List X) → list_any f (map address xs) ≡ list_any (λ x. f (address x)) xs
  list_any-map f [] = refl
  list_any-map f (x ∷ xs) = ap (λ b. f (address x) || b) (list_any-map f xs)

  pub insert_after-map : (f : ℕ → Bool) (x : X) (xs : List X) → insert_after f (address x) (map address xs) ≡ map address (insert_after (λ x. f (address x)) x xs)
  insert_after-map f x [] = refl
  insert_after-map f x (y ∷ ys) =
      ap (λ b. cond b (address y ∷ insert_after f (address x) (map address ys)) (address x ∷ address y ∷ map address ys)) (list_any-map f (y ∷ ys))
      ∙ on (list_any (λ x. f (address x)) (y ∷ ys)) (insert_after-map f x ys)
    where
      on : (b : Bool) → insert_after f (address x) (map address ys) ≡ map address (insert_after (λ x. f (address x)) x ys)
          → cond b (address y ∷ insert_after f (address x) (map address ys)) (address x ∷ address y ∷ map address ys)
          ≡ map address (cond b (y ∷ insert_after (λ x. f (address x)) x ys) (x ∷ y ∷ ys))
      on true more = ap (λ z. address y ∷ z) more
      on false more = refl

  pub without-map : (p : ℕ) (xs : List X) → without p (map address xs) ≡ map address (without_first (λ x. eqb p (address x)) xs)
  without-map p [] = refl
  without-map p (y ∷ ys) = on (eqb p (address y)) (without-map p ys)
    where
      on : (b : Bool) → without p (map address ys) ≡ map address (without_first (λ x. eqb p (address x)) ys)
          → cond b (map address ys) (address y ∷ without p (map address ys)) ≡ map address (cond b ys (y ∷ without_first (λ x. eqb p (address x)) ys))
      on true more = refl
      on false more = ap (λ z. address y ∷ z) more

-- the same tests find the same place
pub cell_after-same : {X : Type 0} (f g : X → Bool) (link : X → ℕ) (at : ℕ) (xs : List X) → AllByRecursion (λ x. f x ≡ g x) xs → cell_after f link at xs ≡ cell_after g link at xs
cell_after-same f g link at [] same = refl
cell_after-same f g link at (x ∷ xs) same =
    ap (λ b. cell_after f link (cond b (link x) at) xs) same.0 ∙ cell_after-same f g link (cond (g x) (link x) at) xs same.1
