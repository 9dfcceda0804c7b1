-- Texts that are printed part by part.
use Rattle.std.proofs.Common.{◌≡◌, ◌∙◌, ℕ, suc, ◌<◌, ◌+◌, List, [], ◌∷◌, ◌++◌, length, get_or, take, drop, refl, sym, ap, arith, append_assoc, append-nil, add-one, add-zero, drop-cons, length-take}
use Rattle.std.proofs.Math.Seq.{take-suc}
use Rattle.std.proofs.lemmas.List.{take-append-drop}
use Rattle.module_text.specs.ModuleForm.{relocation_type}
use Rattle.module_text.specs.Canonical.{item_text, relocations_text, word_text, words_text}

words_text-append : (i n : ℕ) (xs ys : List ℕ) → words_text i n (xs ++ ys) ≡ words_text i n xs ++ words_text (i + length xs) n ys
words_text-append i n [] ys = rw (add-zero i) refl
words_text-append i n (x ∷ xs) ys =
    let same : i + 1 + length xs ≡ i + suc (length xs) = omega arith in
    ap (λ (t : List ℕ). word_text i n x ++ t) (words_text-append (i + 1) n xs ys ∙ ap (λ (j : ℕ). words_text (i + 1) n xs ++ words_text j n ys) same)
    ∙ sym (append_assoc (word_text i n x) (words_text (i + 1) n xs) (words_text (i + suc (length xs)) n ys))

front_size : (xs : List ℕ) (i : ℕ) → i < length xs → 0 + length (take i xs) ≡ i
front_size xs i lt = omega (arith, length-take i xs)

-- words, cut round word i
pub words_at : (xs : List ℕ) (i : ℕ) → i < length xs
    → words_text 0 (length xs) xs ≡ words_text 0 (length xs) (take i xs) ++ (word_text i (length xs) (get_or xs i 0) ++ words_text (i + 1) (length xs) (drop (suc i) xs))
words_at xs i lt =
    let n = length xs in
    ap (λ (ys : List ℕ). words_text 0 n ys) (sym (take-append-drop i xs)) ∙ words_text-append 0 n (take i xs) (drop i xs)
    ∙ rw (front_size xs i lt, drop-cons xs i 0 lt) refl

-- one word more
pub words_more : (xs : List ℕ) (i : ℕ) → i < length xs → words_text 0 (length xs) (take (i + 1) xs) ≡ words_text 0 (length xs) (take i xs) ++ word_text i (length xs) (get_or xs i 0)
words_more xs i lt =
    let n = length xs in
    let x = get_or xs i 0 in
    let more : take (i + 1) xs ≡ take i xs ++ x ∷ [] = rw add-one (take-suc xs i 0 lt) in
    let one : words_text (0 + length (take i xs)) n (x ∷ []) ≡ word_text i n x = rw (front_size xs i lt) (append-nil (word_text i n x)) in
    ap (λ (ys : List ℕ). words_text 0 n ys) more ∙ words_text-append 0 n (take i xs) (x ∷ []) ∙ ap (λ (t : List ℕ). words_text 0 n (take i xs) ++ t) one

-- some relocations
pub relocations_some : (offsets : List ℕ) → 0 < length offsets → relocations_text offsets ≡ item_text relocation_type offsets
relocations_some [] lt = absurd (omega arith)
relocations_some (o ∷ os) lt = refl
