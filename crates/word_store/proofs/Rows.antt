-- What a store holds once words were written one after another.
use Rattle.std.proofs.Common.{◌≡◌, ◌≢◌, ◌∙◌, ℕ, zero, suc, ◌<◌, ◌≤◌, ◌+◌, ◌-◌, ◌⊎◌, inl, inr, List, [], ◌∷◌, ◌++◌, length, get_or, set, refl, sym, ap, arith, add-zero, length-set, get_or-set_other, get_or-set_same, drop-cons}
use Rattle.std.specs.Prelude.{slice_range}
use Rattle.std.proofs.lemmas.List.{set_comm, set-set}
use Rattle.word_store.specs.Row.{with_words}

-- an address is before or behind n words from a on
abbrev pub IsOutside : ℕ → ℕ → ℕ → Type 0
IsOutside b a n = (b < a) ⊎ (a + n ≤ b)

outside_rest : (b a n : ℕ) → IsOutside b a (suc n) → IsOutside b (a + 1) n
outside_rest b a n (inl h) = inl (omega arith)
outside_rest b a n (inr h) = inr (omega arith)

outside_first : (b a n : ℕ) → IsOutside b a (suc n) → b ≢ a
outside_first b a n (inl h) = λ e. absurd (omega arith)
outside_first b a n (inr h) = λ e. absurd (omega arith)

pub length-with_words : (s : List ℕ) (a : ℕ) (ws : List ℕ) → length (with_words s a ws) ≡ length s
length-with_words s a [] = refl
length-with_words s a (w ∷ ws) = length-with_words (set s a w) (a + 1) ws ∙ length-set s a w

-- two rows, one behind the other
pub with_words-append : (s : List ℕ) (a : ℕ) (xs ys : List ℕ) → with_words s a (xs ++ ys) ≡ with_words (with_words s a xs) (a + length xs) ys
with_words-append s a [] ys = rw (add-zero a) refl
with_words-append s a (x ∷ xs) ys =
    let same : a + 1 + length xs ≡ a + suc (length xs) = omega arith in
    with_words-append (set s a x) (a + 1) xs ys ∙ ap (λ z. with_words (with_words (set s a x) (a + 1) xs) z ys) same

-- a word outside is written before or afterwards
pub with_words-set_outside : (s : List ℕ) (a : ℕ) (ws : List ℕ) (b w : ℕ) → IsOutside b a (length ws) → with_words (set s b w) a ws ≡ set (with_words s a ws) b w
with_words-set_outside s a [] b w out = refl
with_words-set_outside s a (x ∷ xs) b w out =
    rw (set_comm s b a w x (outside_first b a (length xs) out)) (with_words-set_outside (set s a x) (a + 1) xs b w (outside_rest b a (length xs) out))

-- a word outside stays
pub get_or-with_words_outside : (s : List ℕ) (a : ℕ) (ws : List ℕ) (b : ℕ) → IsOutside b a (length ws) → get_or (with_words s a ws) b 0 ≡ get_or s b 0
get_or-with_words_outside s a [] b out = refl
get_or-with_words_outside s a (x ∷ xs) b out =
    get_or-with_words_outside (set s a x) (a + 1) xs b (outside_rest b a (length xs) out) ∙ get_or-set_other s a b x 0 (outside_first b a (length xs) out)

-- a word of the row is read back
pub get_or-with_words : (s : List ℕ) (a : ℕ) (ws : List ℕ) (i : ℕ) → i < length ws → a + length ws ≤ length s → get_or (with_words s a ws) (a + i) 0 ≡ get_or ws i 0
get_or-with_words s a [] i lt fits = absurd (omega arith)
get_or-with_words s a (x ∷ xs) zero lt fits =
    rw (add-zero a) (get_or-with_words_outside (set s a x) (a + 1) xs a (inl (omega arith)) ∙ get_or-set_same s a x 0 (omega arith))
get_or-with_words s a (x ∷ xs) (suc i) lt fits =
    let same : a + suc i ≡ a + 1 + i = omega arith in
    rw same (get_or-with_words (set s a x) (a + 1) xs i (omega arith) (omega (arith, length-set s a x)))

-- a word of the row, written again
pub set-with_words : (s : List ℕ) (a : ℕ) (ws : List ℕ) (i w : ℕ) → i < length ws → set (with_words s a ws) (a + i) w ≡ with_words s a (set ws i w)
set-with_words s a [] i w lt = absurd (omega arith)
set-with_words s a (x ∷ xs) zero w lt =
    rw (add-zero a) (sym (with_words-set_outside (set s a x) (a + 1) xs a w (inl (omega arith))) ∙ ap (λ (z : List ℕ). with_words z (a + 1) xs) (set-set s a x w))
set-with_words s a (x ∷ xs) (suc i) w lt =
    let same : a + suc i ≡ a + 1 + i = omega arith in
    rw same (set-with_words (set s a x) (a + 1) xs i w (omega arith))

-- two rows apart are written in either order
pub with_words-apart : (s : List ℕ) (a : ℕ) (xs : List ℕ) (b : ℕ) (ys : List ℕ) → a + length xs ≤ b → with_words (with_words s b ys) a xs ≡ with_words (with_words s a xs) b ys
with_words-apart s a [] b ys le = refl
with_words-apart s a (x ∷ xs) b ys le =
    rw (← with_words-set_outside s b ys a x (inl (omega arith))) (with_words-apart (set s a x) (a + 1) xs b ys (omega arith))

-- ---- words one after another, as they are read

-- a range begins with its first word
pub range_first : (s : List ℕ) (a b : ℕ) → a < b → b ≤ length s → slice_range s a b ≡ get_or s a 0 ∷ slice_range s (a + 1) b
range_first s a b lt le =
    let more : b - a ≡ suc (b - (a + 1)) = omega arith in
    let one : a + 1 ≡ suc a = omega arith in
    rw (more, drop-cons s a 0 (omega arith), one) refl

pub range_none : (s : List ℕ) (a : ℕ) → slice_range s a a ≡ []
range_none s a = let none : a - a ≡ 0 = omega arith in rw none refl

-- a range is known by its words
pub range_same : (s t : List ℕ) (a n : ℕ) → a + n ≤ length s → a + n ≤ length t → ((i : ℕ) → a ≤ i → i < a + n → get_or t i 0 ≡ get_or s i 0) → slice_range t a (a + n) ≡ slice_range s a (a + n)
range_same s t a zero f g same = rw (add-zero a, range_none t a, range_none s a) refl
range_same s t a (suc n) f g same =
    let next : a + suc n ≡ a + 1 + n = omega arith in
    rw (range_first t a (a + suc n) (omega arith) g, range_first s a (a + suc n) (omega arith) f, same a (omega arith) (omega arith), next) (
    ap (λ (xs : List ℕ). get_or s a 0 ∷ xs) (range_same s t (a + 1) n (omega arith) (omega arith) (λ i le lt. same i (omega arith) (omega arith)))
    )

-- the row is read back
pub range-with_words : (s : List ℕ) (a : ℕ) (ws : List ℕ) → a + length ws ≤ length s → slice_range (with_words s a ws) a (a + length ws) ≡ ws
range-with_words s a [] fits = rw (add-zero a, range_none s a) refl
range-with_words s a (x ∷ xs) fits =
    let t = with_words (set s a x) (a + 1) xs in
    let size = length-with_words (set s a x) (a + 1) xs ∙ length-set s a x in
    let first = get_or-with_words_outside (set s a x) (a + 1) xs a (inl (omega arith)) ∙ get_or-set_same s a x 0 (omega arith) in
    let next : a + suc (length xs) ≡ a + 1 + length xs = omega arith in
    rw (range_first t a (a + suc (length xs)) (omega arith) (omega (arith, size)), first, next) (
    ap (λ (zs : List ℕ). x ∷ zs) (range-with_words (set s a x) (a + 1) xs (omega (arith, length-set s a x)))
    )
