-- Owned words, joined, looked up and written.
use Rattle.std.proofs.Common.{◌≡◌, ◌≢◌, ℕ, ◌+◌, ◌<◌, List, [], ◌∷◌, ◌++◌, length, get_or, set, eqb, cond, true, false, refl, sym, ap, ◌∙◌, arith, get_or-set_other, get_or-set_same, length-set, Some, None}
use Rattle.std.proofs.lemmas.Bool.Decides.{nat_tests}
use Rattle.kernel_lists.specs.OwnedWords.Owned.{AreApart, AreInside, Holds, Pairs, owners, word_in, written}
use Rattle.word_store.proofs.Counts.{hit-other, hit-same}

pub owners-append : (a : ℕ) (xs ys : Pairs) → owners a (xs ++ ys) ≡ owners a xs + owners a ys
owners-append a [] ys = omega arith
owners-append a (x ∷ xs) ys = omega (arith, owners-append a xs ys)

pub Holds-append : (s : List ℕ) (xs ys : Pairs) → Holds s xs → Holds s ys → Holds s (xs ++ ys)
Holds-append s [] ys h k = k
Holds-append s (x ∷ xs) ys h k = (h.0, Holds-append s xs ys h.1 k)

pub Holds-left : (s : List ℕ) (xs ys : Pairs) → Holds s (xs ++ ys) → Holds s xs
Holds-left s [] ys h = tt
Holds-left s (x ∷ xs) ys h = (h.0, Holds-left s xs ys h.1)

pub Holds-right : (s : List ℕ) (xs ys : Pairs) → Holds s (xs ++ ys) → Holds s ys
Holds-right s [] ys h = h
Holds-right s (x ∷ xs) ys h = Holds-right s xs ys h.1

-- owned words are held on where their addresses are as they were
pub Holds-same : (s t : List ℕ) (xs : Pairs) → Holds s xs → ((a : ℕ) → 0 < owners a xs → get_or t a 0 ≡ get_or s a 0) → Holds t xs
Holds-same s t [] h same = tt
Holds-same s t (x ∷ xs) h same = (same x.0 (omega (arith, hit-same x.0 x.0 refl)) ∙ h.0, Holds-same s t xs h.1 (λ a k. same a (omega arith)))

-- an address that nobody owns has no word
pub word_in-none : (a : ℕ) (xs : Pairs) → owners a xs ≡ 0 → word_in a xs ≡ None
word_in-none a [] none = refl
word_in-none a (x ∷ xs) none =
    let differ : a ≢ x.0 = λ e. absurd (omega (arith, hit-same a x.0 e)) in
    let test : eqb a x.0 ≡ false = grind (arith, nat_tests) in
    rw test (word_in-none a xs (omega arith))

-- an owned word is the store's
pub word_in-holds : (s : List ℕ) (a : ℕ) (xs : Pairs) → Holds s xs → 0 < owners a xs → word_in a xs ≡ Some (get_or s a 0)
word_in-holds s a [] h some = absurd (omega arith)
word_in-holds s a (x ∷ xs) h some =
    elim (eqb a x.0) as (λ b. eqb a x.0 ≡ b → cond b (Some x.1) (word_in a xs) ≡ Some (get_or s a 0)) [
      | true ↦ λ t. (let same : a ≡ x.0 = grind (arith, nat_tests) in ap (λ w. Some w) (sym h.0 ∙ ap (λ z. get_or s z 0) (sym same)))
      | false ↦ λ f. (let differ : a ≢ x.0 = grind (arith, nat_tests) in word_in-holds s a xs h.1 (omega (arith, hit-other a x.0 differ)))
    ] refl

-- a word that is not written stays
pub written-other : (a : ℕ) (ws : Pairs) (s : List ℕ) → owners a ws ≡ 0 → get_or (written ws s) a 0 ≡ get_or s a 0
written-other a [] s none = refl
written-other a (e ∷ es) s none =
    let differ : a ≢ e.0 = λ same. absurd (omega (arith, hit-same a e.0 same)) in
    get_or-set_other (written es s) e.0 a e.1 0 differ ∙ written-other a es s (omega arith)

pub length-written : (ws : Pairs) (s : List ℕ) → length (written ws s) ≡ length s
length-written [] s = refl
length-written (e ∷ es) s = length-set (written es s) e.0 e.1 ∙ length-written es s

pub written-append : (ws ps : Pairs) (s : List ℕ) → written (ws ++ ps) s ≡ written ws (written ps s)
written-append [] ps s = refl
written-append (e ∷ es) ps s = ap (λ z. set z e.0 e.1) (written-append es ps s)

-- what was written is there, where no address was written twice
pub Holds-written : (ws : Pairs) (s : List ℕ) → AreApart ws → AreInside s ws → Holds (written ws s) ws
Holds-written [] s apart inside = tt
Holds-written (e ∷ es) s apart inside = (
  get_or-set_same (written es s) e.0 e.1 0 (omega (arith, length-written es s, inside e.0, hit-same e.0 e.0 refl)),
  Holds-same (written es s) (set (written es s) e.0 e.1) es
      (Holds-written es s (λ a. omega (arith, apart a)) (λ a h. inside a (omega arith)))
      (λ a some. get_or-set_other (written es s) e.0 a e.1 0 (λ same. absurd (omega (arith, apart a, hit-same a e.0 same)))),
)
