-- What a keeper of kinds knows, once it was told of addresses that came or went.
use Rattle.std.proofs.Common.{◌≡◌, ℕ, ◌+◌, ◌<◌, List, [], ◌∷◌, ◌++◌, cond, eqb, Bool, true, false, refl, ap, arith}
use Rattle.std.specs.List.{range_with_len}
use Rattle.std.proofs.lemmas.Bool.{eqb-true}
use Rattle.word_store.specs.Count.{IsApart, hit, times}
use Rattle.kernel_lists.specs.LinkedList.Places.{without}
use Rattle.word_store.proofs.Counts.{hit-same, times-append}
use Rattle.kernel_model.specs.WordKinds.Keeper.{AreTogether}
use Rattle.kernel_model.specs.WordKinds.Private.ToldWords.{WasClaimed, WasReleased}

-- ---- released

pub released-none : (tells : List ℕ → Type 0) → WasReleased tells tells []
released-none tells count once k known same = k known (λ a. omega (arith, same a))

pub released-both : (tells mid told : List ℕ → Type 0) (xs ys : List ℕ) → WasReleased tells mid xs → WasReleased mid told ys → WasReleased tells told (xs ++ ys)
released-both tells mid told xs ys one two count once k =
    two count (λ a. omega (arith, once a, times-append a xs ys))
    (one (λ a. count a + times a ys) (λ a. omega (arith, once a, times-append a xs ys)) (λ known same. k known (λ a. omega (arith, same a, times-append a xs ys))))

pub released-one : (tells told : List ℕ → Type 0) (p : ℕ)
    → ((before after : List ℕ) → tells before → IsApart before → AreTogether before after (range_with_len p 1) → told after) → WasReleased tells told (p ∷ [])
released-one tells told p release count once k known same =
    let before : List ℕ = known ++ p ∷ [] in
    let all : (a : ℕ) → times a before ≡ count a + times a (p ∷ []) = λ a. omega (arith, times-append a known (p ∷ []), same a) in
    release before known (k before all) (λ a. omega (arith, all a, once a)) (λ a. times-append a known (p ∷ []))

-- ---- claimed

-- an address that is in a list, taken out of it once
times-out : (p : ℕ) (xs : List ℕ) → 0 < times p xs → (a : ℕ) → times a xs ≡ times a (without p xs) + hit a p
times-out p [] some a = absurd (omega (arith, some))
times-out p (x ∷ xs) some a = on (eqb p x) refl (λ more. times-out p xs more a)
  where
    on : (b : Bool) → eqb p x ≡ b → (0 < times p xs → times a xs ≡ times a (without p xs) + hit a p) → times a (x ∷ xs) ≡ times a (cond b xs (x ∷ without p xs)) + hit a p
    on true e more = omega (arith, ap (hit a) (eqb-true p x e))
    on false e more =
        let other : hit p x ≡ 0 = ap (λ b. cond b 1 0) e in
        omega (arith, more (omega (arith, some, other)))

pub claimed-none : (tells : List ℕ → Type 0) → WasClaimed tells tells []
claimed-none tells count k known same = k known (λ a. omega (arith, same a))

pub claimed-one : (tells told : List ℕ → Type 0) (p : ℕ) → ((before after : List ℕ) → tells before → AreTogether after before (range_with_len p 1) → told after) → WasClaimed tells told (p ∷ [])
claimed-one tells told p claim count k known same =
    let out : (a : ℕ) → times a known ≡ times a (without p known) + hit a p = times-out p known (omega (arith, same p, hit-same p p refl)) in
    claim (without p known) known (k (without p known) (λ a. omega (arith, out a, same a))) (λ a. omega (arith, out a))
