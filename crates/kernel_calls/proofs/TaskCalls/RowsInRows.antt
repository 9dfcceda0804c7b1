-- Rows of words that are written over, and globals that are set in a row.
use Rattle.std.proofs.Common.{◌≡◌, ◌∙◌, ℕ, zero, suc, ◌+◌, ◌<◌, ◌≤◌, List, [], ◌∷◌, ◌++◌, length, replicate, set, refl, sym, ap, arith}
use Rattle.std.specs.List.{AllByRecursion}
use Rattle.std.proofs.lemmas.List.{length-append, length-set}
use Rattle.word_store.specs.Row.{with_words}
use Rattle.word_store.proofs.Rows.{set-with_words}
use Rattle.kernel_lists.specs.HunkLoader.Globals.{Global, with_globals}
use Rattle.kernel_model.specs.KernelRecord.Task.{filled}

-- so many zeros
pub length-zeros : (n : ℕ) → length {A = ℕ} (replicate n 0) ≡ n
length-zeros zero = refl
length-zeros (suc n) = ap suc (length-zeros n)

-- a word of the second of two lists
pub set-behind : (xs ys : List ℕ) (i w : ℕ) → set (xs ++ ys) (length xs + i) w ≡ xs ++ set ys i w
set-behind [] ys i w = (let none : 0 + i ≡ i = omega arith in ap (λ z. set ys z w) none)
set-behind (x ∷ xs) ys i w =
    let next : suc (length xs) + i ≡ suc (length xs + i) = omega arith in
    ap (λ z. set (x ∷ (xs ++ ys)) z w) next ∙ ap (λ z. x ∷ z) (set-behind xs ys i w)

-- a word of the first of them
pub set-before : (xs ys : List ℕ) (i w : ℕ) → i < length xs → set (xs ++ ys) i w ≡ set xs i w ++ ys
set-before [] ys i w lt = absurd (omega (arith, lt))
set-before (x ∷ xs) ys zero w lt = refl
set-before (x ∷ xs) ys (suc i) w lt = ap (λ z. x ∷ z) (set-before xs ys i w (omega (arith, lt)))

-- a word of a row behind the front of the row
pub set-row_behind : (s : List ℕ) (a : ℕ) (xs ys : List ℕ) (i w : ℕ) → i < length ys → set (with_words s a (xs ++ ys)) (a + length xs + i) w ≡ with_words s a (xs ++ set ys i w)
set-row_behind s a xs ys i w lt =
    let same : a + length xs + i ≡ a + (length xs + i) = omega arith in
    ap (λ z. set (with_words s a (xs ++ ys)) z w) same
    ∙ set-with_words s a (xs ++ ys) (length xs + i) w (omega (arith, lt, length-append xs ys))
    ∙ ap (λ z. with_words s a z) (set-behind xs ys i w)

-- globals in a row, behind its front
pub globals-row_behind : (s : List ℕ) (a : ℕ) (xs ys : List ℕ) (gs : List Global) → AllByRecursion (λ g. g.number < length ys) gs
    → with_globals (with_words s a (xs ++ ys)) (a + length xs) gs ≡ with_words s a (xs ++ with_globals ys 0 gs)
globals-row_behind s a xs ys [] all = refl
globals-row_behind s a xs ys (g ∷ gs) all =
    let same : g.number ≡ 0 + g.number = omega arith in
    ap (λ z. with_globals z (a + length xs) gs) (set-row_behind s a xs ys g.number g.value all.0)
    ∙ globals-row_behind s a xs (set ys g.number g.value) gs (still gs all.1)
    ∙ ap (λ z. with_words s a (xs ++ with_globals (set ys z g.value) 0 gs)) same
  where
    still : (hs : List Global) → AllByRecursion (λ h. h.number < length ys) hs → AllByRecursion (λ h. h.number < length (set ys g.number g.value)) hs
    still [] all = tt
    still (h ∷ hs) all = (omega (arith, all.0, length-set ys g.number g.value), still hs all.1)

-- globals in the first of two lists
pub globals-before : (ys zs : List ℕ) (gs : List Global) → AllByRecursion (λ g. g.number < length ys) gs → with_globals (ys ++ zs) 0 gs ≡ with_globals ys 0 gs ++ zs
globals-before ys zs [] all = refl
globals-before ys zs (g ∷ gs) all =
    let none : 0 + g.number ≡ g.number = omega arith in
    ap (λ z. with_globals (set (ys ++ zs) z g.value) 0 gs) none ∙ ap (λ z. with_globals z 0 gs) (set-before ys zs g.number g.value all.0)
    ∙ globals-before (set ys g.number g.value) zs gs (still gs all.1) ∙ ap (λ z. with_globals (set ys z g.value) 0 gs ++ zs) (sym none)
  where
    still : (hs : List Global) → AllByRecursion (λ h. h.number < length ys) hs → AllByRecursion (λ h. h.number < length (set ys g.number g.value)) hs
    still [] all = tt
    still (h ∷ hs) all = (omega (arith, all.0, length-set ys g.number g.value), still hs all.1)

-- words that are written over zeros of a row, behind its front
filled-zeros : (n : ℕ) → replicate n 0 ≡ filled n []
filled-zeros zero = refl
filled-zeros (suc n) = ap (λ z. 0 ∷ z) (filled-zeros n)

pub words-over_zeros : (s : List ℕ) (a : ℕ) (xs : List ℕ) (n : ℕ) (ws rest : List ℕ) → length ws ≤ n
    → with_words (with_words s a (xs ++ (replicate n 0 ++ rest))) (a + length xs) ws ≡ with_words s a (xs ++ (filled n ws ++ rest))
words-over_zeros s a xs n [] rest few = ap (λ z. with_words s a (xs ++ (z ++ rest))) (filled-zeros n)
words-over_zeros s a xs zero (w ∷ ws) rest few = absurd (omega (arith, few))
words-over_zeros s a xs (suc n) (w ∷ ws) rest few =
    let here : a + length xs + 0 ≡ a + length xs = omega arith in
    let next : a + length (xs ++ w ∷ []) ≡ a + length xs + 1 = omega (arith, length-append xs (w ∷ [])) in
    let put : set (with_words s a (xs ++ (0 ∷ (replicate n 0 ++ rest)))) (a + length xs) w ≡ with_words s a (xs ++ (w ∷ (replicate n 0 ++ rest))) =
    ap (λ z. set (with_words s a (xs ++ (0 ∷ (replicate n 0 ++ rest)))) z w) (sym here) ∙ set-row_behind s a xs (0 ∷ (replicate n 0 ++ rest)) 0 w (omega arith)
    in
    ap (λ z. with_words z (a + length xs + 1) ws) (put ∙ ap (λ z. with_words s a z) (append_one xs w (replicate n 0 ++ rest)))
    ∙ ap (λ z. with_words (with_words s a ((xs ++ w ∷ []) ++ (replicate n 0 ++ rest))) z ws) (sym next)
    ∙ words-over_zeros s a (xs ++ w ∷ []) n ws rest (omega (arith, few))
    ∙ ap (λ z. with_words s a z) (sym (append_one xs w (filled n ws ++ rest)))
  where
    append_one : (xs : List ℕ) (w : ℕ) (ys : List ℕ) → xs ++ (w ∷ ys) ≡ (xs ++ w ∷ []) ++ ys
    append_one [] w ys = refl
    append_one (x ∷ xs) w ys = ap (λ z. x ∷ z) (append_one xs w ys)
