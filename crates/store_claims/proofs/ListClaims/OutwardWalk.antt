-- A walk outwards that claims the coroutines that it passes.
use Rattle.std.proofs.Common.{◌≡◌, ◌≢◌, ◌⊎◌, inl, inr, ℕ, zero, suc, ◌+◌, ◌<◌, ◌≤◌, ◌||◌, Bool, true, false, List, [], ◌∷◌, ◌++◌, cond, eqb, get_or, length, refl, sym, ap, ◌∙◌, subst, arith, length-append}
use Rattle.std.specs.List.{range_with_len}
use Rattle.std.proofs.lemmas.Bool.{eq-eqb, ne_eqb}
use Rattle.kernel_lists.specs.Coroutines.Active.{active_in, outwards}
use Rattle.kernel_lists.specs.Coroutines.CoroutineWords.{current_cell, parent_cell}
use Rattle.store_claims.specs.WordClaims.Marks.{AreClaimed, AreOpen, IsSet}
use Rattle.store_claims.proofs.WordClaims.ClaimedWords.{claimed-more, nothing-claimed}
use Rattle.store_claims.specs.ListClaims.ListWords.{Claimable}
use Rattle.store_claims.proofs.ListClaims.JoinedClaims.{claimable-both, claimable-first, claimable-rest, range-claimable}

-- the words lead outwards through these to the word at `to`
abbrev Leads : List ℕ → ℕ → ℕ → List ℕ → ℕ → Type 0
Leads s t at [] to = at ≡ to
Leads s t at (c ∷ cs) to = (get_or s at 0 ≡ c) × (c ≢ 0) × (c ≢ t) × Leads s t (parent_cell c) cs to

leads-more : (s : List ℕ) (t at : ℕ) (cs : List ℕ) (to p : ℕ) → Leads s t at cs to → p ≡ get_or s to 0 → p ≢ 0 → p ≢ t → Leads s t at (cs ++ p ∷ []) (parent_cell p)
leads-more s t at [] to p h read some other = (ap (λ z. get_or s z 0) h ∙ sym read, some, other, refl)
leads-more s t at (c ∷ cs) to p h read some other = (h.0, h.1, h.2, leads-more s t (parent_cell c) cs to p h.3 read some other)

-- a word that does not end the walk
pub goes : (c t : ℕ) → c ≢ 0 → c ≢ t → (eqb c 0 || eqb c t) ≡ false
goes c t some other = λ i. ne_eqb c 0 some i || ne_eqb c t other i

-- one that does
pub ends : (c t : ℕ) → (c ≡ 0) ⊎ (c ≡ t) → (eqb c 0 || eqb c t) ≡ true
ends c t (inl none) = ap (λ b. b || eqb c t) (eq-eqb c 0 none)
ends c t (inr root) = on (eqb c 0)
  where
    on : (b : Bool) → (b || eqb c t) ≡ true
    on true = refl
    on false = eq-eqb c t root

leads-all : (n : ℕ) (s : List ℕ) (t at : ℕ) (cs : List ℕ) (to : ℕ) → Leads s t at cs to → (get_or s to 0 ≡ 0) ⊎ (get_or s to 0 ≡ t) → length cs ≤ n → outwards n s t at ≡ cs
unfolding outwards
leads-all zero s t at [] to h end few = refl
leads-all zero s t at (c ∷ cs) to h end few = absurd (omega (arith, few))
leads-all (suc n) s t at [] to h end few =
    ap (λ b. cond b [] (get_or s at 0 ∷ outwards n s t (parent_cell (get_or s at 0)))) (ap (λ z. eqb (get_or s z 0) 0 || eqb (get_or s z 0) t) h ∙ ends (get_or s to 0) t end)
leads-all (suc n) s t at (c ∷ cs) to h end few =
    rw h.0 (rw (goes c t h.1 h.2) (ap (λ r. c ∷ r) (leads-all n s t (parent_cell c) cs to h.3 end (omega (arith, few)))))

record GoOn (n : ℕ) (s : List ℕ) (t at : ℕ) (cs : List ℕ) (p : ℕ) : Type 0 where
  pub rest : List ℕ
  pub is : outwards n s t at ≡ cs ++ p ∷ rest

leads-on : (n : ℕ) (s : List ℕ) (t at : ℕ) (cs : List ℕ) (to p : ℕ) → Leads s t at cs to → p ≡ get_or s to 0 → p ≢ 0 → p ≢ t → length cs < n → GoOn n s t at cs p
unfolding outwards
leads-on zero s t at cs to p h read some other few = absurd (omega (arith, few))
leads-on (suc n) s t at [] to p h read some other few =
    let here : get_or s at 0 ≡ p = ap (λ z. get_or s z 0) h ∙ sym read in
    record { rest = outwards n s t (parent_cell p); is = rw here (rw (goes p t some other) refl) }
leads-on (suc n) s t at (c ∷ cs) to p h read some other few =
    let r : GoOn n s t (parent_cell c) cs p = leads-on n s t (parent_cell c) cs to p h.3 read some other (omega (arith, few)) in
    record { rest = r.rest; is = rw h.0 (rw (goes c t h.1 h.2) (ap (λ z. c ∷ z) r.is)) }

leads-full : (n : ℕ) (s : List ℕ) (t at : ℕ) (cs : List ℕ) (to : ℕ) → Leads s t at cs to → length cs ≡ n → outwards n s t at ≡ cs
unfolding outwards
leads-full zero s t at [] to h full = refl
leads-full zero s t at (c ∷ cs) to h full = absurd (omega (arith, full))
leads-full (suc n) s t at [] to h full = absurd (omega (arith, full))
leads-full (suc n) s t at (c ∷ cs) to h full = rw h.0 (rw (goes c t h.1 h.2) (ap (λ r. c ∷ r) (leads-full n s t (parent_cell c) cs to h.3 (omega (arith, full)))))

-- ---- the walk

pub record Walked (s : List ℕ) (t : ℕ) (before now : List Bool) (at n : ℕ) : Type 0 where
  pub passed : List ℕ
  pub count : length passed ≡ n
  pub leads : Leads s t (current_cell t) passed at
  pub claimed : AreClaimed before now passed
  pub could : Claimable before passed

pub begun : (s : List ℕ) (t : ℕ) (m : List Bool) (at : ℕ) → at ≡ t + 18 → Walked s t m m at 0
begun s t m at here = record {
  passed = [];
  count = refl;
  leads = sym here;
  claimed = nothing-claimed m;
  could = record { are_open = λ a some. absurd (omega (arith, some)); apart = λ a. omega arith };
}

module _ (s : List ℕ) (t : ℕ) (before now : List Bool) (at n : ℕ) (w : Walked s t before now at n) where
  pub stepped : (c : ℕ) (new : List Bool) (next : ℕ) → c ≡ get_or s at 0 → c ≢ 0 → c ≢ t → AreOpen now c 1 → IsSet now new c 1 false → next ≡ c + 1 → Walked s t before new next (n + 1)
  stepped c new next read some other all set goes-to =
      record {
        passed = w.passed ++ c ∷ [];
        count = length-append w.passed (c ∷ []) ∙ omega (arith, w.count);
        leads = subst (Leads s t (current_cell t) (w.passed ++ c ∷ [])) (sym goes-to) (leads-more s t (current_cell t) w.passed at c w.leads read some other);
        claimed = claimed-more before now new w.passed c 1 w.claimed all set;
        could = claimable-both before now w.passed (range_with_len c 1) w.claimed w.could ((range-claimable now c 1).0 all);
      }

  -- the walk has ended
  pub ended : (get_or s at 0 ≡ 0) ⊎ (get_or s at 0 ≡ t) → n ≤ length s → Claimable before (active_in s t)
  ended end few = subst (Claimable before) (sym (leads-all (length s) s t (current_cell t) w.passed at w.leads end (omega (arith, w.count, few)))) w.could

  pub ended-claimed : (get_or s at 0 ≡ 0) ⊎ (get_or s at 0 ≡ t) → n ≤ length s → AreClaimed before now (active_in s t)
  ended-claimed end few = subst (AreClaimed before now) (sym (leads-all (length s) s t (current_cell t) w.passed at w.leads end (omega (arith, w.count, few)))) w.claimed

  -- it has passed as many as the store has words
  pub filled-claimed : n ≡ length s → AreClaimed before now (active_in s t)
  filled-claimed full = subst (AreClaimed before now) (sym (leads-full (length s) s t (current_cell t) w.passed at w.leads (w.count ∙ full))) w.claimed

  pub filled : n ≡ length s → Claimable before (active_in s t)
  filled full = subst (Claimable before) (sym (leads-full (length s) s t (current_cell t) w.passed at w.leads (w.count ∙ full))) w.could

  -- where all can be claimed, the next one can
  pub next-open : (c : ℕ) → n < length s → c ≡ get_or s at 0 → c ≢ 0 → c ≢ t → Claimable before (active_in s t) → AreOpen now c 1
  next-open c few read some other can =
      let g : GoOn (length s) s t (current_cell t) w.passed c = leads-on (length s) s t (current_cell t) w.passed at c w.leads read some other (omega (arith, w.count, few)) in
      (range-claimable now c 1).1 (claimable-first now (range_with_len c 1) g.rest (claimable-rest before now w.passed (c ∷ g.rest) w.claimed (subst (Claimable before) g.is can)))
