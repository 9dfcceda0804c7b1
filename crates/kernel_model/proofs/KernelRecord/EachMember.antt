-- What holds of each member of a list of things.
use Rattle.std.proofs.Common.{◌≡◌, ℕ, ◌+◌, ◌<◌, List, [], ◌∷◌, map, cond, Bool, true, false, Some, refl, sym, ap, ◌∙◌, arith, inl, inr}
use Rattle.std.specs.Prelude.{find}
use Rattle.std.proofs.lemmas.Bool.{cases_lt}
use Rattle.std.specs.List.{AllByRecursion}
use Rattle.kernel_lists.specs.OwnedWords.LinkedWords.{first_of, linked_words}
use Rattle.kernel_lists.specs.OwnedWords.Owned.{AreApart, AreInside, Holds, Pairs, owners}
use Rattle.kernel_lists.proofs.OwnedWords.OwnedWords.{Holds-left, Holds-right, owners-append}

pub all-each : {X : Type 0} (P Q : X → Type 0) → ((x : X) → P x → Q x) → (xs : List X) → AllByRecursion P xs → AllByRecursion Q xs
all-each P Q each [] all = tt
all-each P Q each (x ∷ xs) all = (each x all.0, all-each P Q each xs all.1)

pub all-both : {X : Type 0} (P Q : X → Type 0) (xs : List X) → AllByRecursion P xs → AllByRecursion Q xs → AllByRecursion (λ x. P x × Q x) xs
all-both P Q [] all also = tt
all-both P Q (x ∷ xs) all also = ((all.0, also.0), all-both P Q xs all.1 also.1)

-- The words of each of the linked things are held, apart and in the store.
pub held-each : {X : Type 0} (address : X → ℕ) (words : X → ℕ → Pairs) (s : List ℕ) (P Q : X → Type 0)
    → ((x : X) (n : ℕ) → Holds s (words x n) → AreApart (words x n) → AreInside s (words x n) → P x → Q x)
    → (xs : List X) (end : ℕ) → Holds s (linked_words address words xs end) → AreApart (linked_words address words xs end) → AreInside s (linked_words address words xs end)
    → AllByRecursion P xs → AllByRecursion Q xs
held-each address words s P Q each [] end h apart inside all = tt
held-each address words s P Q each (x ∷ xs) end h apart inside all =
    let n : ℕ = first_of address xs end in
    let rest : Pairs = linked_words address words xs end in
    let join : (a : ℕ) → owners a (linked_words address words (x ∷ xs) end) ≡ owners a (words x n) + owners a rest = λ a. owners-append a (words x n) rest in (
      each x n (Holds-left s (words x n) rest h) (λ a. omega (arith, apart a, join a)) (λ a some. inside a (omega (arith, some, join a))) all.0,
      held-each address words s P Q each xs end (Holds-right s (words x n) rest h) (λ a. omega (arith, apart a, join a)) (λ a some. inside a (omega (arith, some, join a))) all.1,
    )

-- what holds of the addresses of each of the linked things holds of all
pub linked-each : {X : Type 0} (D : ℕ → Type 0) (address : X → ℕ) (words : X → ℕ → Pairs) (xs : List X) (end a : ℕ) → AllByRecursion (λ x. (n : ℕ) → 0 < owners a (words x n) → D a) xs
    → 0 < owners a (linked_words address words xs end) → D a
linked-each D address words [] end a all some = absurd (omega (arith, some))
linked-each D address words (x ∷ xs) end a all some =
    let n : ℕ = first_of address xs end in
    elim (cases_lt 0 (owners a (words x n))) [
      | inl here ↦ all.0 n here
      | inr none ↦ linked-each D address words xs end a all.1 (omega (arith, some, none, owners-append a (words x n) (linked_words address words xs end)))
    ]

-- the words of each of the linked things are held
pub holds-each : {X : Type 0} (address : X → ℕ) (words : X → ℕ → Pairs) (s : List ℕ) (Q : X → Type 0) → ((x : X) (n : ℕ) → Holds s (words x n) → Q x)
    → (xs : List X) (end : ℕ) → Holds s (linked_words address words xs end) → AllByRecursion Q xs
holds-each address words s Q each [] end h = tt
holds-each address words s Q each (x ∷ xs) end h =
    let n : ℕ = first_of address xs end in (
      each x n (Holds-left s (words x n) (linked_words address words xs end) h),
      holds-each address words s Q each xs end (Holds-right s (words x n) (linked_words address words xs end) h),
    )

-- things that are found again from their addresses
pub map-back : {X : Type 0} (f : ℕ → X) (address : X → ℕ) (xs : List X) → AllByRecursion (λ x. f (address x) ≡ x) xs → map f (map address xs) ≡ xs
map-back f address [] all = refl
map-back f address (x ∷ xs) all = λ i. all.0 i ∷ map-back f address xs all.1 i

-- what holds of the address of each thing
pub all-addresses : {X : Type 0} (P : ℕ → Type 0) (address : X → ℕ) (xs : List X) → AllByRecursion (λ x. P (address x)) xs → AllByRecursion P (map address xs)
all-addresses P address [] all = tt
all-addresses P address (x ∷ xs) all = (all.0, all-addresses P address xs all.1)
