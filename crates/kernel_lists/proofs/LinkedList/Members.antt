-- Nodes that are members of a list.
use Rattle.std.proofs.Common.{◌≡◌, ◌≢◌, ℕ, ◌+◌, ◌<◌, ◌≤◌, ◌⊎◌, inl, inr, List, [], ◌∷◌, cond, eqb, ◌||◌, Bool, true, false, refl, sym, ap, ◌∙◌, arith}
use Rattle.std.proofs.lemmas.Bool.{cases_eq, false≢true}
use Rattle.std.proofs.lemmas.Bool.Decides.{nat_tests}
use Rattle.kernel_lists.specs.LinkedList.Chain.{cells}
use Rattle.word_store.specs.Count.{IsApart, hit, node_words, times, words_of}
use Rattle.kernel_lists.specs.LinkedList.Places.{cell_before, has, without}
use Rattle.word_store.proofs.Counts.{hit-other, hit-same, times-words_more}

-- a member at the front, and behind it
pub has-here : (k : ℕ) (ks : List ℕ) → has k (k ∷ ks) ≡ true
has-here k ks = (let same : eqb k k ≡ true = grind (arith, nat_tests) in ap (λ b. b || has k ks) same)

pub has-there : (m k : ℕ) (ks : List ℕ) → has m ks ≡ true → has m (k ∷ ks) ≡ true
has-there m k ks some = on (eqb m k) refl
  where
    on : (b : Bool) → eqb m k ≡ b → has m (k ∷ ks) ≡ true
    on true e = ap (λ b. b || has m ks) e
    on false e = ap (λ b. b || has m ks) e ∙ some

-- no member is not the first one, and no later one
pub has-not : (c k : ℕ) (ks : List ℕ) → has c (k ∷ ks) ≡ false → (c ≢ k) × (has c ks ≡ false)
has-not c k ks none = on (eqb c k) refl none
  where
    on : (b : Bool) → eqb c k ≡ b → (b || has c ks) ≡ false → (c ≢ k) × (has c ks ≡ false)
    on true e none = cc
    on false e none = (let differ : c ≢ k = grind (arith, nat_tests) in (differ, none))

pub not-has : (c k : ℕ) (ks : List ℕ) → c ≢ k → has c ks ≡ false → has c (k ∷ ks) ≡ false
not-has c k ks ne none = (let test : eqb c k ≡ false = grind (arith, nat_tests) in ap (λ b. b || has c ks) test ∙ none)

-- a member is counted, and what is counted is a member
pub has-times : (p : ℕ) (ps : List ℕ) → has p ps ≡ true → 0 < times p ps
has-times p [] some = cc
has-times p (q ∷ qs) some = on (eqb p q) refl some (has-times p qs)
  where
    on : (b : Bool) → eqb p q ≡ b → (b || has p qs) ≡ true → (has p qs ≡ true → 0 < times p qs) → 0 < hit p q + times p qs
    on true e some more = (let same : p ≡ q = grind (arith, nat_tests) in omega (arith, hit-same p q same))
    on false e some more = omega (arith, more some)

pub times-has : (p : ℕ) (ps : List ℕ) → 0 < times p ps → has p ps ≡ true
times-has p [] some = absurd (omega (arith, some))
times-has p (q ∷ qs) some = on (eqb p q) refl (times-has p qs)
  where
    on : (b : Bool) → eqb p q ≡ b → (0 < times p qs → has p qs ≡ true) → has p (q ∷ qs) ≡ true
    on true e more = ap (λ b. b || has p qs) e
    on false e more =
        let differ : p ≢ q = grind (arith, nat_tests) in
        ap (λ b. b || has p qs) e ∙ more (omega (arith, some, hit-other p q differ))

pub has-none : (p : ℕ) (ps : List ℕ) → times p ps ≡ 0 → has p ps ≡ false
has-none p ps none = on (has p ps) refl
  where
    on : (b : Bool) → has p ps ≡ b → b ≡ false
    on true e = absurd (omega (arith, none, has-times p ps e))
    on false e = refl

pub none-times : (p : ℕ) (ps : List ℕ) → has p ps ≡ false → times p ps ≡ 0
none-times p ps none = elim (cases_eq (times p ps) 0) [ inl e ↦ e | inr ne ↦ absurd (false≢true (sym none ∙ times-has p ps (omega (arith, ne)))) ]

-- a cell is the head, or the link of a member
pub cell-cases : (link : ℕ → ℕ) (a at : ℕ) (ps : List ℕ) → 0 < times a (cells link at ps) → (a ≡ at) ⊎ ((k : ℕ) × (has k ps ≡ true) × (a ≡ link k))
cell-cases link a at [] some = elim (cases_eq a at) [ inl e ↦ inl e | inr ne ↦ absurd (omega (arith, some, hit-other a at ne)) ]
cell-cases link a at (p ∷ ps) some =
    elim (cases_eq a at) [
      | inl e ↦ inl e
      | inr ne ↦ later (cell-cases link a (link p) ps (omega (arith, some, hit-other a at ne)))
    ]
  where
    later : (a ≡ link p) ⊎ ((k : ℕ) × (has k ps ≡ true) × (a ≡ link k)) → (a ≡ at) ⊎ ((k : ℕ) × (has k (p ∷ ps) ≡ true) × (a ≡ link k))
    later (inl e) = inr (p, has-here p ps, e)
    later (inr (k, some, e)) = inr (k, has-there k p ps some, e)

-- the word before a member is the head, or the link of a member
pub cell_before-cases : (link : ℕ → ℕ) (p at : ℕ) (ps : List ℕ) → (cell_before link p at ps ≡ at) ⊎ ((k : ℕ) × (has k ps ≡ true) × (cell_before link p at ps ≡ link k))
cell_before-cases link p at [] = inl refl
cell_before-cases link p at (q ∷ qs) = on (eqb p q) (cell_before-cases link p (link q) qs)
  where
    on : (b : Bool) → (cell_before link p (link q) qs ≡ link q) ⊎ ((k : ℕ) × (has k qs ≡ true) × (cell_before link p (link q) qs ≡ link k))
        → (cond b at (cell_before link p (link q) qs) ≡ at) ⊎ ((k : ℕ) × (has k (q ∷ qs) ≡ true) × (cond b at (cell_before link p (link q) qs) ≡ link k))
    on true later = inl refl
    on false (inl e) = inr (q, has-here q qs, e)
    on false (inr (k, some, e)) = inr (k, has-there k q qs some, e)

-- the words of a member are words of the list
pub one-member : (size : ℕ → ℕ) (a p : ℕ) (ps : List ℕ) → has p ps ≡ true → times a (node_words size p) ≤ times a (words_of size ps)
one-member size a p [] some = cc
one-member size a p (q ∷ qs) some = on (eqb p q) refl some (one-member size a p qs)
  where
    on : (b : Bool) → eqb p q ≡ b → (b || has p qs) ≡ true → (has p qs ≡ true → times a (node_words size p) ≤ times a (words_of size qs)) → times a (node_words size p) ≤ times a (words_of size (q ∷ qs))
    on true e some more =
        let same : p ≡ q = grind (arith, nat_tests) in
        omega (arith, times-words_more size a q qs, ap (λ z. times a (node_words size z)) same)
    on false e some more = omega (arith, times-words_more size a q qs, more some)

-- and so are those of two members
pub two-members : (size : ℕ → ℕ) (a p r : ℕ) (ps : List ℕ) → has p ps ≡ true → has r ps ≡ true → p ≢ r
    → times a (node_words size p) + times a (node_words size r) ≤ times a (words_of size ps)
two-members size a p r [] some other differ = cc
two-members size a p r (q ∷ qs) some other differ = on (eqb p q) refl some (eqb r q) refl other (two-members size a p r qs)
  where
    on : (b : Bool) → eqb p q ≡ b → (b || has p qs) ≡ true → (c : Bool) → eqb r q ≡ c → (c || has r qs) ≡ true
        → (has p qs ≡ true → has r qs ≡ true → p ≢ r → times a (node_words size p) + times a (node_words size r) ≤ times a (words_of size qs))
        → times a (node_words size p) + times a (node_words size r) ≤ times a (words_of size (q ∷ qs))
    on true e some true f other more =
        let same : p ≡ q = grind (arith, nat_tests) in
        let also : r ≡ q = grind (arith, nat_tests) in
        absurd (differ (same ∙ sym also))
    on true e some false f other more =
        let same : p ≡ q = grind (arith, nat_tests) in
        omega (arith, times-words_more size a q qs, ap (λ z. times a (node_words size z)) same, one-member size a r qs other)
    on false e some true f other more =
        let same : r ≡ q = grind (arith, nat_tests) in
        omega (arith, times-words_more size a q qs, ap (λ z. times a (node_words size z)) same, one-member size a p qs some)
    on false e some false f other more = omega (arith, times-words_more size a q qs, more some other differ)

-- members of the list without p are members, and the others are still there
pub without-has : (p r : ℕ) (ps : List ℕ) → has r (without p ps) ≡ true → has r ps ≡ true
without-has p r [] some = some
without-has p r (q ∷ qs) some = on (eqb p q) refl (eqb r q) refl some (without-has p r qs)
  where
    on : (b : Bool) → eqb p q ≡ b → (c : Bool) → eqb r q ≡ c → has r (cond b qs (q ∷ without p qs)) ≡ true → (has r (without p qs) ≡ true → has r qs ≡ true) → (eqb r q || has r qs) ≡ true
    on b e true f some more = ap (λ c. c || has r qs) f
    on true e false f some more = ap (λ c. c || has r qs) f ∙ some
    on false e false f some more = ap (λ c. c || has r qs) f ∙ more (sym (ap (λ c. c || has r (without p qs)) f) ∙ some)

pub without-keeps : (p r : ℕ) (ps : List ℕ) → r ≢ p → has r ps ≡ true → has r (without p ps) ≡ true
without-keeps p r [] ne some = some
without-keeps p r (q ∷ qs) ne some = on (eqb p q) refl (eqb r q) refl some (without-keeps p r qs ne)
  where
    on : (b : Bool) → eqb p q ≡ b → (c : Bool) → eqb r q ≡ c → (eqb r q || has r qs) ≡ true → (has r qs ≡ true → has r (without p qs) ≡ true) → has r (cond b qs (q ∷ without p qs)) ≡ true
    on true e true f some more =
        let same : p ≡ q = grind (arith, nat_tests) in
        let also : r ≡ q = grind (arith, nat_tests) in
        absurd (ne (also ∙ sym same))
    on true e false f some more = sym (ap (λ c. c || has r qs) f) ∙ some
    on false e true f some more = ap (λ c. c || has r (without p qs)) f
    on false e false f some more = ap (λ c. c || has r (without p qs)) f ∙ more (sym (ap (λ c. c || has r qs) f) ∙ some)

-- no address is there more often without a member, and the member not at all
pub times-without : (a p : ℕ) (ps : List ℕ) → times a (without p ps) ≤ times a ps
times-without a p [] = omega arith
times-without a p (q ∷ qs) = on (eqb p q) (times-without a p qs)
  where
    on : (b : Bool) → times a (without p qs) ≤ times a qs → times a (cond b qs (q ∷ without p qs)) ≤ times a (q ∷ qs)
    on true le = omega arith
    on false le = omega arith

pub without-times : (p : ℕ) (ps : List ℕ) → IsApart ps → times p (without p ps) ≡ 0
without-times p [] apart = refl
without-times p (q ∷ qs) apart = on (eqb p q) refl (without-times p qs (λ a. omega (arith, apart a)))
  where
    on : (b : Bool) → eqb p q ≡ b → times p (without p qs) ≡ 0 → times p (cond b qs (q ∷ without p qs)) ≡ 0
    on true t none = (let same : p ≡ q = grind (arith, nat_tests) in omega (arith, apart p, hit-same p q same))
    on false t none = (let differ : p ≢ q = grind (arith, nat_tests) in omega (arith, none, hit-other p q differ))
