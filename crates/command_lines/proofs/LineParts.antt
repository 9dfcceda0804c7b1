-- A line's first word, and what follows it, are its parts by the rules.
use Rattle.std.proofs.Common.{◌≡◌, ◌≢◌, ◌⊎◌, ℕ, suc, ◌+◌, ◌==◌, eqb, cond, not, Bool, true, false, List, [], ◌∷◌, ◌++◌, length, take, drop, refl, ap, sym, subst, ◌∙◌, inl, inr, one-add, arith}
use Rattle.std.specs.List.{position_or_len}
use Rattle.std.proofs.lemmas.Bool.{eq-eqb, ne_eqb}
use Rattle.std.proofs.lemmas.Bool.Decides.{nat_tests}
use Rattle.std.proofs.lemmas.List.{drop_at, take-append-drop, take_at}
use Rattle.command_lines.specs.ArgumentTemplates.Cut.{IsFreeOf, MayEnd}
use Rattle.command_lines.specs.CommandForm.{IsBlank, Parts}
use Rattle.command_lines.specs.CommandForm.Parts.{space, word}
use Rattle.command_lines.specs.Words.{after_spaces, first_word, rest_of}

-- a word goes up to the next space
abbrev letters : List ℕ → ℕ
letters cs = position_or_len (λ c. c == 32) cs

-- the first word and the rest of a line that begins with no space
abbrev word_of : List ℕ → List ℕ
word_of cs = take (letters cs) cs

abbrev behind : List ℕ → List ℕ
behind cs = drop (letters cs) cs

word-free : (cs : List ℕ) → IsFreeOf 32 (word_of cs)
word-free [] = tt
word-free (c ∷ cs) = on (eqb c 32) refl (word-free cs)
  where
    on : (b : Bool) → eqb c 32 ≡ b → IsFreeOf 32 (word_of cs) → IsFreeOf 32 (take (cond (not b) (1 + letters cs) 0) (c ∷ cs))
    on true e free = tt
    on false e free = let no_space : c ≢ 32 = grind (arith, nat_tests) in rw one-add (no_space, free)

behind-ends : (cs : List ℕ) → MayEnd (behind cs)
behind-ends [] = tt
behind-ends (c ∷ cs) = on (eqb c 32) refl (behind-ends cs)
  where
    on : (b : Bool) → eqb c 32 ≡ b → MayEnd (behind cs) → MayEnd (drop (cond (not b) (1 + letters cs) 0) (c ∷ cs))
    on true e ends = grind (arith, nat_tests)
    on false e ends = rw one-add ends

-- ---- the parts of a line

-- by its first byte
after-space : (b : Bool) (c : ℕ) (cs : List ℕ) → eqb c 32 ≡ b → after_spaces (c ∷ cs) ≡ cond b (after_spaces cs) (c ∷ cs)
after-space true c cs e = rw (e, one-add) refl
after-space false c cs e = rw e refl

first-letter : (c : ℕ) (cs : List ℕ) → eqb c 32 ≡ false → letters (c ∷ cs) ≡ suc (letters cs)
first-letter c cs e = rw (e, one-add) refl

-- a line is blank and has no word, or it has these parts
pub parts-of : (line : List ℕ) → (IsBlank line × (first_word line ≡ [])) ⊎ Parts line (first_word line) (rest_of line)
parts-of [] = inl (tt, refl)
parts-of (c ∷ cs) = on (eqb c 32) refl (parts-of cs)
  where
    spaced : after_spaces (c ∷ cs) ≡ after_spaces cs → c ≡ 32 → (IsBlank cs × (first_word cs ≡ [])) ⊎ Parts cs (first_word cs) (rest_of cs)
        → (IsBlank (c ∷ cs) × (first_word (c ∷ cs) ≡ [])) ⊎ Parts (c ∷ cs) (first_word (c ∷ cs)) (rest_of (c ∷ cs))
    spaced same is (inl blank) = inl ((is, blank.0), ap word_of same ∙ blank.1)
    spaced same is (inr parts) =
        inr (subst (λ z. Parts (c ∷ cs) (word_of z) (behind z)) (sym same) (subst (λ z. Parts (z ∷ cs) (first_word cs) (rest_of cs)) (sym is) (space parts)))

    on : (b : Bool) → eqb c 32 ≡ b → (IsBlank cs × (first_word cs ≡ [])) ⊎ Parts cs (first_word cs) (rest_of cs)
        → (IsBlank (c ∷ cs) × (first_word (c ∷ cs) ≡ [])) ⊎ Parts (c ∷ cs) (first_word (c ∷ cs)) (rest_of (c ∷ cs))
    on true e next = let is : c ≡ 32 = grind (arith, nat_tests) in spaced (after-space true c cs e) is next
    on false e next =
        let no_space : c ≢ 32 = grind (arith, nat_tests) in
        let begun : Parts (c ∷ (word_of cs ++ behind cs)) (c ∷ word_of cs) (behind cs) = word no_space (word-free cs) (behind-ends cs) in
        let whole : Parts (c ∷ cs) (c ∷ word_of cs) (behind cs) = subst (λ z. Parts (c ∷ z) (c ∷ word_of cs) (behind cs)) (take-append-drop (letters cs) cs) begun in
        let here : Parts (c ∷ cs) (word_of (c ∷ cs)) (behind (c ∷ cs)) = subst (λ n. Parts (c ∷ cs) (take n (c ∷ cs)) (drop n (c ∷ cs))) (sym (first-letter c cs e)) whole in
        inr (subst (λ z. Parts (c ∷ cs) (word_of z) (behind z)) (sym (after-space false c cs e)) here)

pub blank-no_word : (line : List ℕ) → IsBlank line → first_word line ≡ []
blank-no_word [] blank = refl
blank-no_word (c ∷ cs) blank = ap word_of (after-space true c cs (eq-eqb c 32 blank.0)) ∙ blank-no_word cs blank.1

-- ---- a line of these parts

letters-of : (text rest : List ℕ) → IsFreeOf 32 text → MayEnd rest → letters (text ++ rest) ≡ length text
letters-of [] [] free ends = refl
letters-of [] (c ∷ rest) free ends = rw (eq-eqb c 32 ends) refl
letters-of (c ∷ text) rest free ends = first-letter c (text ++ rest) (ne_eqb c 32 free.0) ∙ ap (λ n. suc n) (letters-of text rest free.1 ends)

-- the word has a byte at least
pub data IsSplit (line first rest : List ℕ) : Type 0 where
  Split : first_word line ≡ first → rest_of line ≡ rest → eqb (length first) 0 ≡ false → IsSplit line first rest

pub parts-split : {line first rest : List ℕ} → Parts line first rest → IsSplit line first rest
parts-split (space {line} {word = first} {rest} parts) = on (parts-split parts)
  where
    on : IsSplit line first rest → IsSplit (32 ∷ line) first rest
    on (Split is behind_is some) =
        let same : after_spaces (32 ∷ line) ≡ after_spaces line = after-space true 32 line refl in
        Split (ap word_of same ∙ is) (ap behind same ∙ behind_is) some
parts-split (word {first} {text} {rest} no_space free ends) =
    let none = ne_eqb first 32 no_space in
    let same : after_spaces (first ∷ (text ++ rest)) ≡ first ∷ (text ++ rest) = after-space false first (text ++ rest) none in
    let n : letters (first ∷ (text ++ rest)) ≡ suc (length text) = first-letter first (text ++ rest) none ∙ ap (λ m. suc m) (letters-of text rest free ends) in
    Split
    (ap word_of same ∙ (ap (λ m. take m (first ∷ (text ++ rest))) n ∙ take_at (first ∷ text) rest (suc (length text)) refl))
    (ap behind same ∙ (ap (λ m. drop m (first ∷ (text ++ rest))) n ∙ drop_at (first ∷ text) rest (suc (length text)) refl))
    (ne_eqb (suc (length text)) 0 (λ e. omega (arith, e)))
