-- Exchanges in members of a list of things, of which some change.
use Rattle.std.proofs.Common.{◌≡◌, ◌≢◌, ℕ, ◌+◌, ◌<◌, List, [], ◌∷◌, ◌++◌, map, cond, eqb, true, false, refl, sym, ap, ◌∙◌, subst, arith}
use Rattle.std.proofs.lemmas.Bool.Decides.{nat_tests}
use Rattle.std.specs.List.{flat_map}
use Rattle.word_store.specs.Count.{times}
use Rattle.kernel_lists.specs.OwnedWords.Owned.{Holds, Pairs, owners}
use Rattle.kernel_lists.specs.OwnedWords.Exchange.{Exchange}
use Rattle.kernel_lists.specs.OwnedWords.LinkedWords.{first_of, linked_words}
use Rattle.word_store.proofs.Counts.{hit-same, hit-other}
use Rattle.kernel_lists.proofs.OwnedWords.Exchanges.{exchange-both, exchange-none}
use Rattle.kernel_lists.proofs.OwnedWords.OwnedWords.{Holds-append, Holds-left, Holds-right, owners-append}

pub first_of-map : {X : Type 0} (address : X → ℕ) (change : X → X) → ((x : X) → address (change x) ≡ address x) → (xs : List X) (end : ℕ) → first_of address (map change xs) end ≡ first_of address xs end
first_of-map address change same [] end = refl
first_of-map address change same (x ∷ xs) end = same x

-- each of the linked things may change, and the kind of their words too
pub exchange-map : {X : Type 0} (address : X → ℕ) (words words' : X → ℕ → Pairs) (change : X → X) (old new : X → Pairs) → ((x : X) → address (change x) ≡ address x)
    → ((x : X) (n : ℕ) → Exchange (words x n) (words' (change x) n) (old x) (new x)) → (xs : List X) (end : ℕ)
    → Exchange (linked_words address words xs end) (linked_words address words' (map change xs) end) (flat_map old xs) (flat_map new xs)
exchange-map address words words' change old new same inner [] end = exchange-none []
exchange-map address words words' change old new same inner (x ∷ xs) end =
    subst (λ n. Exchange (words x (first_of address xs end) ++ linked_words address words xs end) (words' (change x) n ++ linked_words address words' (map change xs) end) (old x ++ flat_map old xs) (new x ++ flat_map new xs))
    (sym (first_of-map address change same xs end))
    (exchange-both _ _ _ _ _ _ _ _ (inner x (first_of address xs end)) (exchange-map address words words' change old new same inner xs end))

-- a member of a list, by its address, which no other one has
pub record IsMember {X : Type 0} (address : X → ℕ) (c : ℕ) (xs : List X) : Type 0 where
  pub front : List X
  pub member : X
  pub back : List X
  pub is : xs ≡ front ++ member ∷ back
  pub at : address member ≡ c
  pub once : times c (map address xs) ≡ 1

none-chosen : {X : Type 0} (address : X → ℕ) (c : ℕ) (f : X → Pairs) (xs : List X) → times c (map address xs) ≡ 0 → flat_map (λ x. cond (eqb (address x) c) (f x) []) xs ≡ []
none-chosen address c f [] none = refl
none-chosen address c f (x ∷ xs) none =
    let differ : c ≢ address x = λ e. absurd (omega (arith, none, hit-same c (address x) e)) in
    let test : eqb (address x) c ≡ false = grind (arith, nat_tests) in
    rw test (none-chosen address c f xs (omega arith))

-- only the member's words are chosen
pub one-chosen : {X : Type 0} (address : X → ℕ) (c : ℕ) (f : X → Pairs) (xs : List X) (m : IsMember address c xs) → flat_map (λ x. cond (eqb (address x) c) (f x) []) xs ≡ f m.member ++ []
one-chosen {X} address c f xs m =
    ap (flat_map (λ x. cond (eqb (address x) c) (f x) [])) m.is
    ∙ by m.front m.member m.back m.at (ap (λ z. times c (map address z)) (sym m.is) ∙ m.once)
  where
    by : (front : List X) (y : X) (back : List X) → address y ≡ c → times c (map address (front ++ y ∷ back)) ≡ 1 → flat_map (λ x. cond (eqb (address x) c) (f x) []) (front ++ y ∷ back) ≡ f y ++ []
    by [] y back at once =
        let test : eqb (address y) c ≡ true = grind (arith, nat_tests) in
        rw test (ap (λ z. f y ++ z) (none-chosen address c f back (omega (arith, once, hit-same c (address y) (sym at)))))
    by (z ∷ zs) y back at once =
        let some : (ws : List X) → 0 < times c (map address (ws ++ y ∷ back)) = here y back at in
        let differ : c ≢ address z = λ e. absurd (omega (arith, once, hit-same c (address z) e, some zs)) in
        let test : eqb (address z) c ≡ false = grind (arith, nat_tests) in
        rw test (by zs y back at (omega (arith, once, hit-other c (address z) differ)))
      where
        here : (y : X) (back : List X) → address y ≡ c → (ws : List X) → 0 < times c (map address (ws ++ y ∷ back))
        here y back at [] = omega (arith, hit-same c (address y) (sym at))
        here y back at (w ∷ ws) = omega (arith, here y back at ws)

-- two kinds of pieces
pub owners-two : {X : Type 0} (f g : X → Pairs) (xs : List X) (a : ℕ) → owners a (flat_map (λ x. f x ++ g x) xs) ≡ owners a (flat_map f xs) + owners a (flat_map g xs)
owners-two f g [] a = omega arith
owners-two f g (x ∷ xs) a =
    omega (arith, owners-two f g xs a, owners-append a (f x ++ g x) (flat_map (λ x. f x ++ g x) xs), owners-append a (f x) (g x), owners-append a (f x) (flat_map f xs), owners-append a (g x) (flat_map g xs))

pub Holds-two : {X : Type 0} (f g : X → Pairs) (xs : List X) (s : List ℕ) → Holds s (flat_map (λ x. f x ++ g x) xs) → Holds s (flat_map f xs) × Holds s (flat_map g xs)
Holds-two f g [] s h = (tt, tt)
Holds-two f g (x ∷ xs) s h =
    let own = Holds-left s (f x ++ g x) (flat_map (λ x. f x ++ g x) xs) h in
    let r = Holds-two f g xs s (Holds-right s (f x ++ g x) (flat_map (λ x. f x ++ g x) xs) h) in
    (Holds-append s (f x) (flat_map f xs) (Holds-left s (f x) (g x) own) r.0, Holds-append s (g x) (flat_map g xs) (Holds-right s (f x) (g x) own) r.1)

pub two-Holds : {X : Type 0} (f g : X → Pairs) (xs : List X) (s : List ℕ) → Holds s (flat_map f xs) → Holds s (flat_map g xs) → Holds s (flat_map (λ x. f x ++ g x) xs)
two-Holds f g [] s h k = tt
two-Holds f g (x ∷ xs) s h k =
    Holds-append s (f x ++ g x) (flat_map (λ x. f x ++ g x) xs)
    (Holds-append s (f x) (g x) (Holds-left s (f x) (flat_map f xs) h) (Holds-left s (g x) (flat_map g xs) k))
    (two-Holds f g xs s (Holds-right s (f x) (flat_map f xs) h) (Holds-right s (g x) (flat_map g xs) k))
