-- The words of a row: their addresses, and what a store that holds them has there.
use Rattle.std.proofs.Common.{◌≡◌, ℕ, zero, suc, ◌+◌, ◌<◌, ◌≤◌, List, [], ◌∷◌, length, get_or, set, refl, sym, ap, ◌∙◌, arith, inl, add-zero}
use Rattle.std.specs.Prelude.{slice_range}
use Rattle.std.specs.List.{range_with_len}
use Rattle.word_store.specs.Count.{times}
use Rattle.word_store.specs.Row.{with_words}
use Rattle.word_store.proofs.Rows.{range_first, range_none, with_words-set_outside}
use Rattle.kernel_lists.specs.OwnedWords.Owned.{Holds, owners, row_from, written}

pub owners-row : (a p i : ℕ) (ws : List ℕ) → owners a (row_from p i ws) ≡ times a (range_with_len (p + i) (length ws))
owners-row a p i [] = refl
owners-row a p i (w ∷ ws) =
    let next : p + suc i ≡ p + i + 1 = omega arith in
    let more : owners a (row_from p (suc i) ws) ≡ times a (range_with_len (p + i + 1) (length ws)) = owners-row a p (suc i) ws ∙ ap (λ z. times a (range_with_len z (length ws))) next in
    omega (arith, more)

-- word j of it
pub Holds-row : (s : List ℕ) (a i : ℕ) (ws : List ℕ) (j : ℕ) → Holds s (row_from a i ws) → j < length ws → get_or s (a + (i + j)) 0 ≡ get_or ws j 0
Holds-row s a i [] j h lt = absurd (omega arith)
Holds-row s a i (w ∷ ws) zero h lt = (let e : i + 0 ≡ i = omega arith in ap (λ z. get_or s (a + z) 0) e ∙ h.0)
Holds-row s a i (w ∷ ws) (suc j) h lt = (let e : i + suc j ≡ suc i + j = omega arith in ap (λ z. get_or s (a + z) 0) e ∙ Holds-row s a (suc i) ws j h.1 (omega arith))

-- all of them
pub Holds-range : (s : List ℕ) (a i : ℕ) (ws : List ℕ) → Holds s (row_from a i ws) → a + i + length ws ≤ length s → slice_range s (a + i) (a + i + length ws) ≡ ws
Holds-range s a i [] h fits = (let e : a + i + 0 ≡ a + i = omega arith in ap (slice_range s (a + i)) e ∙ range_none s (a + i))
Holds-range s a i (w ∷ ws) h fits =
    let e : a + i + suc (length ws) ≡ a + suc i + length ws = omega arith in
    let one : a + i + 1 ≡ a + suc i = omega arith in
    range_first s (a + i) (a + i + suc (length ws)) (omega arith) fits
    ∙ ap (λ z. z ∷ slice_range s (a + i + 1) (a + i + suc (length ws))) h.0
    ∙ ap (λ z. w ∷ slice_range s z (a + i + suc (length ws))) one ∙ ap (λ z. w ∷ slice_range s (a + suc i) z) e ∙ ap (λ z. w ∷ z) (Holds-range s a (suc i) ws h.1 (omega arith))

-- a row that is written word by word is written as pairs
row-shift : (a i : ℕ) (ws : List ℕ) → row_from (a + 1) i ws ≡ row_from a (suc i) ws
row-shift a i [] = refl
row-shift a i (w ∷ ws) =
    let same : a + 1 + i ≡ a + suc i = omega arith in
    ap (λ z. (z, w) ∷ row_from (a + 1) (suc i) ws) same ∙ ap (λ z. (a + suc i, w) ∷ z) (row-shift a (suc i) ws)

pub with_words-written : (s : List ℕ) (a : ℕ) (ws : List ℕ) → with_words s a ws ≡ written (row_from a 0 ws) s
with_words-written s a [] = refl
with_words-written s a (w ∷ ws) =
    with_words-set_outside s (a + 1) ws a w (inl (omega arith))
    ∙ ap (λ z. set z a w) (with_words-written s (a + 1) ws ∙ ap (λ z. written z s) (row-shift a 0 ws))
    ∙ ap (λ z. set (written (row_from a 1 ws) s) z w) (sym (add-zero a))
