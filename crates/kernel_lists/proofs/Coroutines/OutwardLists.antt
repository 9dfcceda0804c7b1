-- The active coroutines, as the store alone gives them.
use Rattle.std.proofs.Common.{◌≡◌, ◌≢◌, ◌⊎◌, inl, inr, ℕ, zero, suc, ◌+◌, ◌≤◌, List, [], ◌∷◌, length, get_or, eqb, ◌||◌, Bool, true, false, refl, ap, ◌∙◌, arith}
use Rattle.std.specs.List.{AllByRecursion}
use Rattle.std.proofs.lemmas.Bool.Decides.{nat_tests}
use Rattle.kernel_lists.specs.Coroutines.Active.{LeadsOut, outwards}

-- an address that names a coroutine of the task at t, and neither its root nor the task
abbrev pub IsInner : ℕ → ℕ → Type 0
IsInner t c = (c ≢ 0) × (c ≢ t)

pub outwards-is : (n : ℕ) (s : List ℕ) (t end at : ℕ) (cs : List ℕ) → LeadsOut s t end at cs → (end ≡ 0) ⊎ (end ≡ t) → AllByRecursion (IsInner t) cs → length cs ≤ n → outwards n s t at ≡ cs
unfolding outwards
outwards-is zero s t end at [] out ends inner few = refl
outwards-is zero s t end at (c ∷ cs) out ends inner few = absurd (omega (arith, few))
outwards-is (suc n) s t end at [] out ends inner few =
    let test : (eqb (get_or s at 0) 0 || eqb (get_or s at 0) t) ≡ true = elim ends [
      | inl root ↦ ap (λ z. eqb z 0 || eqb z t) (out ∙ root)
      | inr task ↦ ap (λ z. eqb z 0 || eqb z t) (out ∙ task) ∙ either t
    ] in
    rw test refl
  where
    either : (t : ℕ) → (eqb t 0 || eqb t t) ≡ true
    either t = (let same : eqb t t ≡ true = grind (arith, nat_tests) in on (eqb t 0) same)
      where
        on : (b : Bool) → eqb t t ≡ true → (b || eqb t t) ≡ true
        on true e = refl
        on false e = e
outwards-is (suc n) s t end at (c ∷ cs) out ends inner few =
    let ne : c ≢ 0 = inner.0.0 in
    let other : c ≢ t = inner.0.1 in
    let no_root : eqb c 0 ≡ false = grind (arith, nat_tests) in
    let no_task : eqb c t ≡ false = grind (arith, nat_tests) in
    let test : (eqb (get_or s at 0) 0 || eqb (get_or s at 0) t) ≡ false = ap (λ z. eqb z 0 || eqb z t) out.0 ∙ ap (λ b. b || eqb c t) no_root ∙ no_task in
    rw test (ap (λ z. z ∷ outwards n s t (z + 1)) out.0 ∙ ap (λ z. c ∷ z) (outwards-is n s t t (c + 1) cs out.1 (inr refl) inner.1 (omega (arith, few))))

-- the same words lead out through the same coroutines
pub LeadsOut-same : (s v : List ℕ) (t end at : ℕ) (cs : List ℕ) → LeadsOut s t end at cs → get_or v at 0 ≡ get_or s at 0 → AllByRecursion (λ c. get_or v (c + 1) 0 ≡ get_or s (c + 1) 0) cs → LeadsOut v t end at cs
LeadsOut-same s v t end at [] out first same = first ∙ out
LeadsOut-same s v t end at (c ∷ cs) out first same = (first ∙ out.0, LeadsOut-same s v t t (c + 1) cs out.1 same.0 same.1)
