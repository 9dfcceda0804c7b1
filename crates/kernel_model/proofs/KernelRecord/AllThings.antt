-- What holds of all things of a list, and of some.
use Rattle.std.proofs.Common.{◌≡◌, List, [], ◌∷◌, ◌++◌, map, ◌&&◌, ◌||◌, Bool, true, false, refl, sym, ap, subst}
use Rattle.std.specs.List.{AllByRecursion, flat_map, list_any}
use Rattle.kernel_lists.specs.LinkedList.Places.{insert_after}
use Rattle.word_store.proofs.Elements.{all-append, all-back, all-front}
use Rattle.kernel_lists.proofs.LinkedList.Places.{IsPlace, place}

pub all-always : {X : Type 0} (P : X → Type 0) → ((x : X) → P x) → (xs : List X) → AllByRecursion P xs
all-always P each [] = tt
all-always P each (x ∷ xs) = (each x, all-always P each xs)

pub all-from_both : {X : Type 0} (P Q R : X → Type 0) → ((x : X) → P x → Q x → R x) → (xs : List X) → AllByRecursion P xs → AllByRecursion Q xs → AllByRecursion R xs
all-from_both P Q R each [] p q = tt
all-from_both P Q R each (x ∷ xs) p q = (each x p.0 q.0, all-from_both P Q R each xs p.1 q.1)

-- one comes in, goes out, or is another
module _ {X : Type 0} (P : X → Type 0) (front : List X) (x : X) (back : List X) where
  pub all-between : P x → AllByRecursion P (front ++ back) → AllByRecursion P (front ++ x ∷ back)
  all-between h all = all-append P front (x ∷ back) (all-front P front back all) (h, all-back P front back all)

  pub all-beside : AllByRecursion P (front ++ x ∷ back) → AllByRecursion P (front ++ back)
  all-beside all = all-append P front back (all-front P front (x ∷ back) all) (all-back P front (x ∷ back) all).1

  pub all-here : AllByRecursion P (front ++ x ∷ back) → P x
  all-here all = (all-back P front (x ∷ back) all).0

  pub all-put : (y : X) → P y → AllByRecursion P (front ++ x ∷ back) → AllByRecursion P (front ++ y ∷ back)
  all-put y h all = all-append P front (y ∷ back) (all-front P front (x ∷ back) all) (h, (all-back P front (x ∷ back) all).1)

pub all-inserted : {X : Type 0} (P : X → Type 0) (f : X → Bool) (x : X) (xs : List X) → P x → AllByRecursion P xs → AllByRecursion P (insert_after f x xs)
all-inserted P f x xs h all =
    let r : IsPlace f (λ _. 0) 0 x xs = place f (λ _. 0) 0 x xs in
    subst (AllByRecursion P) (sym r.list) (all-between P r.front x r.back h (subst (AllByRecursion P) r.whole all))

-- what holds of the members of all pieces
pub all-pieces : {X Y : Type 0} (P : Y → Type 0) (f : X → List Y) (xs : List X) → AllByRecursion P (flat_map f xs) → AllByRecursion (λ x. AllByRecursion P (f x)) xs
all-pieces P f [] all = tt
all-pieces P f (x ∷ xs) all = (all-front P (f x) (flat_map f xs) all, all-pieces P f xs (all-back P (f x) (flat_map f xs) all))

-- ---- some

pub any-between : {X : Type 0} (f : X → Bool) (front : List X) (x : X) (back : List X) → f x ≡ false → list_any f (front ++ x ∷ back) ≡ list_any f (front ++ back)
any-between f [] x back none = ap (λ b. b || list_any f back) none
any-between f (y ∷ ys) x back none = ap (λ b. f y || b) (any-between f ys x back none)

pub any-put : {X : Type 0} (f : X → Bool) (front : List X) (x y : X) (back : List X) → f y ≡ f x → list_any f (front ++ y ∷ back) ≡ list_any f (front ++ x ∷ back)
any-put f [] x y back e = ap (λ b. b || list_any f back) e
any-put f (z ∷ zs) x y back e = ap (λ b. f z || b) (any-put f zs x y back e)

pub any-here : {X : Type 0} (f : X → Bool) (front : List X) (x : X) (back : List X) → f x ≡ true → list_any f (front ++ x ∷ back) ≡ true
any-here f [] x back e = ap (λ b. b || list_any f back) e
any-here f (z ∷ zs) x back e = on (f z) (any-here f zs x back e)
  where
    on : (b : Bool) → list_any f (zs ++ x ∷ back) ≡ true → (b || list_any f (zs ++ x ∷ back)) ≡ true
    on true more = refl
    on false more = more

pub any-more : {X : Type 0} (f : X → Bool) (front : List X) (x : X) (back : List X) → list_any f (front ++ back) ≡ true → list_any f (front ++ x ∷ back) ≡ true
any-more f [] x back some = on (f x)
  where
    on : (b : Bool) → (b || list_any f back) ≡ true
    on true = refl
    on false = some
any-more f (z ∷ zs) x back some = on (f z) some (any-more f zs x back)
  where
    on : (b : Bool) → (b || list_any f (zs ++ back)) ≡ true → (list_any f (zs ++ back) ≡ true → list_any f (zs ++ x ∷ back) ≡ true) → (b || list_any f (zs ++ x ∷ back)) ≡ true
    on true some more = refl
    on false some more = more some

-- one that passes, with what holds of all
pub any-found : {X : Type 0} (f : X → Bool) (P : X → Type 0) (xs : List X) → list_any f xs ≡ true → AllByRecursion P xs → (x : X) × (f x ≡ true) × P x
any-found f P [] some all = cc
any-found {X} f P (x ∷ xs) some all = on (f x) refl some (λ s. any-found f P xs s all.1)
  where
    on : (b : Bool) → f x ≡ b → (b || list_any f xs) ≡ true → (list_any f xs ≡ true → (y : X) × (f y ≡ true) × P y) → (y : X) × (f y ≡ true) × P y
    on true e some more = (x, e, all.0)
    on false e some more = more some

-- where none passes, each fails
pub all-fail : {X : Type 0} (f : X → Bool) (xs : List X) → list_any f xs ≡ false → AllByRecursion (λ x. f x ≡ false) xs
all-fail f [] none = tt
all-fail f (x ∷ xs) none = on (f x) refl none (all-fail f xs)
  where
    on : (b : Bool) → f x ≡ b → (b || list_any f xs) ≡ false → (list_any f xs ≡ false → AllByRecursion (λ y. f y ≡ false) xs) → AllByRecursion (λ y. f y ≡ false) (x ∷ xs)
    on true e none more = cc
    on false e none more = (e, more none)

pub map-put : {X A : Type 0} (f : X → A) (front : List X) (x y : X) (back : List X) → f y ≡ f x → map f (front ++ y ∷ back) ≡ map f (front ++ x ∷ back)
map-put f [] x y back e = ap (λ z. z ∷ map f back) e
map-put f (z ∷ zs) x y back e = ap (λ r. f z ∷ r) (map-put f zs x y back e)

pub and-other : (b x : Bool) → (b && x) ≡ false → b ≡ true → x ≡ false
and-other true x none is = none
and-other false x none is = cc
