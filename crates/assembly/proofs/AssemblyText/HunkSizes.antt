-- How many words the hunk has.
use Rattle.std.proofs.Common.{◌≡◌, ◌∙◌, ℕ, suc, ◌+◌, ◌*◌, ◌/◌, List, [], ◌∷◌, ◌++◌, length, refl, sym, ap, arith, length-append}
use Rattle.assembly.specs.AssemblyText.Encoding.{Code}
use Rattle.assembly.specs.AssemblyText.HunkWords.{body, closing, highest, hunk_words, pair_words, words_of}
use Rattle.assembly.specs.AssemblyText.Places.{closing_size, hunk_size}

length-words_of : (bytes : List ℕ) → length (words_of bytes) ≡ (length bytes + 3) / 4
length-words_of [] = refl
length-words_of (a ∷ []) = refl
length-words_of (a ∷ b ∷ []) = refl
length-words_of (a ∷ b ∷ c ∷ []) = refl
length-words_of (a ∷ b ∷ c ∷ d ∷ more) = omega (arith, length-words_of more)

length-pair_words : (pairs : List (ℕ × ℕ)) → length (pair_words pairs) ≡ 2 * length pairs
length-pair_words [] = refl
length-pair_words (p ∷ ps) = omega (arith, length-pair_words ps)

closing_size-suc : (n : ℕ) → closing_size (suc n) ≡ 2 * suc n + 2
closing_size-suc n = grind arith

length-closing : (pairs : List (ℕ × ℕ)) → length (closing pairs) ≡ closing_size (length pairs)
length-closing [] = refl
length-closing (p ∷ ps) =
    let two : length (pair_words (p ∷ ps)) ≡ 2 * suc (length ps) = length-pair_words (p ∷ ps) in
    omega (arith, length-append (0 ∷ pair_words (p ∷ ps)) (highest (p ∷ ps) ∷ []), two, closing_size-suc (length ps))

pub body_size : (code : Code) → length (body code) + 1 ≡ hunk_size (4 + length code.bytes) (length code.pairs)
body_size code = omega (arith, length-append (words_of code.bytes) (closing code.pairs), length-words_of code.bytes, length-closing code.pairs)

-- the length, the words of the bytes and the closing words are the hunk
pub hunk_made : (code : Code) (size : ℕ) (a b d : List ℕ) → hunk_size (4 + length code.bytes) (length code.pairs) ≡ size → a ≡ size ∷ [] → b ≡ a ++ words_of code.bytes → d ≡ b ++ closing code.pairs → d ≡ hunk_words code
unfolding hunk_words
hunk_made code size a b d is_size first second third =
    let same : size ≡ length (body code) + 1 = sym is_size ∙ sym (body_size code) in
    third ∙ ap (λ (x : List ℕ). x ++ closing code.pairs) (second ∙ ap (λ (x : List ℕ). x ++ words_of code.bytes) first) ∙ ap (λ (n : ℕ). n ∷ body code) same
