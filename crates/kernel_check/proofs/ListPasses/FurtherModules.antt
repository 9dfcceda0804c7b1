-- The modules of a guest after the first: in order, and then zeros.
use Rattle.std.proofs.Common.{◌≡◌, ◌↔◌, ℕ, zero, suc, ◌+◌, ◌-◌, ◌<◌, ◌≤◌, Bool, true, false, List, [], ◌∷◌, cond, eqb, get_or, length, not, refl, sym, ap, ◌∙◌, subst, arith}
use Rattle.std.specs.Prelude.{drop, filter, slice_range}
use Rattle.std.proofs.lemmas.Bool.{eq-eqb, eqb-true, false≢true}
use Rattle.word_store.proofs.Rows.{range_first, range_none}
use Rattle.kernel_lists.specs.OwnedWords.LinkedWords.{first_of}
use Rattle.kernel_lists.specs.OwnedWords.Owned.{Holds, row_from}
use Rattle.kernel_lists.proofs.HunkLoader.GlobalLists.{length-range}
use Rattle.kernel_lists.specs.TaskBlock.TaskChain.{id_in}
use Rattle.kernel_lists.specs.TaskBlock.Versions.{head_words}
use Rattle.kernel_model.specs.KernelRecord.Recovered.{lists_in, task_in}
use Rattle.kernel_model.specs.KernelRecord.Task.{fault_words, filled, is_guest_id}
use Rattle.kernel_model.specs.KernelRecord.Versions.{head_words_of}
use Rattle.kernel_check.specs.ListPasses.Private.CanPass.{CanPass}
use Rattle.kernel_check.specs.ListPasses.Private.TaskRules.{HasWord, IsDense}
use Rattle.kernel_check.proofs.ListPasses.GuestWords.{filter-some, head-is}
use Rattle.kernel_check.proofs.ListPasses.HeadWords.{first-some, skip-first}
use Rattle.kernel_model.proofs.KernelRecord.RootCounts.{length-filled}

-- ---- a row is what is there

row-is : (s : List ℕ) (t i : ℕ) (xs : List ℕ) → t + i + length xs ≤ length s → Holds s (row_from t i xs) → xs ≡ slice_range s (t + i) (t + i + length xs)
row-is s t i [] fits h = sym ((let e : t + i + 0 ≡ t + i = omega arith in ap (slice_range s (t + i)) e ∙ range_none s (t + i)))
row-is s t i (x ∷ xs) fits h =
    let next : t + i + 1 ≡ t + suc i = omega arith in
    let end : t + i + length (x ∷ xs) ≡ t + suc i + length xs = omega arith in
    let more : xs ≡ slice_range s (t + suc i) (t + suc i + length xs) = row-is s t (suc i) xs (omega (arith, fits)) h.1 in
    (λ j. sym h.0 j ∷ more j)
    ∙ sym (range_first s (t + i) (t + i + length (x ∷ xs)) (omega arith) fits ∙ (λ j. get_or s (t + i) 0 ∷ slice_range s (next j) (end j)))

is-row : (s : List ℕ) (t i n : ℕ) → t + i + n ≤ length s → Holds s (row_from t i (slice_range s (t + i) (t + i + n)))
is-row s t i zero fits = (let none : slice_range s (t + i) (t + i + 0) ≡ [] = (let e : t + i + 0 ≡ t + i = omega arith in ap (slice_range s (t + i)) e ∙ range_none s (t + i)) in subst (λ z. Holds s (row_from t i z)) (sym none) tt)
is-row s t i (suc n) fits =
    let next : t + i + 1 ≡ t + suc i = omega arith in
    let end : t + i + suc n ≡ t + suc i + n = omega arith in
    let is : slice_range s (t + i) (t + i + suc n) ≡ get_or s (t + i) 0 ∷ slice_range s (t + suc i) (t + suc i + n) =
    range_first s (t + i) (t + i + suc n) (omega arith) fits ∙ (λ j. get_or s (t + i) 0 ∷ slice_range s (next j) (end j))
    in
    subst (λ z. Holds s (row_from t i z)) (sym is) (refl, is-row s t (suc i) n (omega (arith, fits)))

-- ---- words that are not 0, and then zeros

abbrev AreZeros : List ℕ → Type 0
AreZeros [] = Unit {0}
AreZeros (w ∷ ws) = (w ≡ 0) × AreZeros ws

zeros-filled : (ws : List ℕ) → AreZeros ws → filled (length ws) [] ≡ ws
zeros-filled [] h = refl
zeros-filled (w ∷ ws) h = λ i. sym h.0 i ∷ zeros-filled ws h.1 i

filled-zeros : (ws : List ℕ) → filled (length ws) [] ≡ ws → AreZeros ws
filled-zeros [] h = tt
filled-zeros (w ∷ ws) h = (sym (ap (λ z. get_or z 0 0) h), filled-zeros ws (ap (drop 1) h))

zeros-none : (ws : List ℕ) → AreZeros ws → filter (λ m. not (eqb m 0)) ws ≡ []
zeros-none [] h = refl
zeros-none (w ∷ ws) h = ap (λ b. cond (not b) (w ∷ filter (λ m. not (eqb m 0)) ws) (filter (λ m. not (eqb m 0)) ws)) (eq-eqb w 0 h.0) ∙ zeros-none ws h.1

abbrev Dense : List ℕ → Type 0
Dense ws = (k : ℕ) → suc k < length ws → get_or ws k 0 ≡ 0 → get_or ws (suc k) 0 ≡ 0

to-dense : (ws : List ℕ) → IsDense ws → Dense ws
to-dense ws d k low none = (let e : k + 1 ≡ suc k = omega arith in ap (λ z. get_or ws z 0) (sym e) ∙ d k (omega (arith, low)) none)

from-dense : (ws : List ℕ) → Dense ws → IsDense ws
from-dense ws d k low none = (let e : k + 1 ≡ suc k = omega arith in ap (λ z. get_or ws z 0) e ∙ d k (omega (arith, low)) none)

dense-zeros : (w : ℕ) (ws : List ℕ) → w ≡ 0 → Dense (w ∷ ws) → AreZeros ws
dense-zeros w [] e h = tt
dense-zeros w (v ∷ ws) e h =
    let next : v ≡ 0 = h 0 (omega arith) e in
    (next, dense-zeros v ws next (λ k low none. h (suc k) (omega (arith, low)) none))

zeros-dense : (ws : List ℕ) → AreZeros ws → (k : ℕ) → get_or ws k 0 ≡ 0
zeros-dense [] h k = refl
zeros-dense (w ∷ ws) h zero = h.0
zeros-dense (w ∷ ws) h (suc k) = zeros-dense ws h.1 k

dense-filled : (ws : List ℕ) → Dense ws → filled (length ws) (filter (λ m. not (eqb m 0)) ws) ≡ ws
dense-filled [] h = refl
dense-filled (w ∷ ws) h = on (eqb w 0) refl (dense-filled ws (λ k low none. h (suc k) (omega (arith, low)) none))
  where
    on : (b : Bool) → eqb w 0 ≡ b → filled (length ws) (filter (λ m. not (eqb m 0)) ws) ≡ ws
        → filled (length (w ∷ ws)) (cond (not b) (w ∷ filter (λ m. not (eqb m 0)) ws) (filter (λ m. not (eqb m 0)) ws)) ≡ w ∷ ws
    on true e more = (let z : AreZeros ws = dense-zeros w ws (eqb-true w 0 e) h in ap (filled (length (w ∷ ws))) (zeros-none ws z) ∙ zeros-filled (w ∷ ws) (eqb-true w 0 e, z))
    on false e more = ap (λ z. w ∷ z) more

filled-dense : (ws : List ℕ) → filled (length ws) (filter (λ m. not (eqb m 0)) ws) ≡ ws → Dense ws
filled-dense [] h = λ k low none. refl
filled-dense (w ∷ ws) h = on (eqb w 0) refl h (λ k. filled-dense ws k)
  where
    on : (b : Bool) → eqb w 0 ≡ b → filled (length (w ∷ ws)) (cond (not b) (w ∷ filter (λ m. not (eqb m 0)) ws) (filter (λ m. not (eqb m 0)) ws)) ≡ w ∷ ws
        → (filled (length ws) (filter (λ m. not (eqb m 0)) ws) ≡ ws → Dense ws) → Dense (w ∷ ws)
    on true e h more = at (filter (λ m. not (eqb m 0)) ws) refl h
      where
        at : (xs : List ℕ) → filter (λ m. not (eqb m 0)) ws ≡ xs → filled (length (w ∷ ws)) xs ≡ w ∷ ws → Dense (w ∷ ws)
        at [] is h = λ k low none. zeros-dense ws (filled-zeros ws (ap (drop 1) h)) k
        at (x ∷ xs) is h =
            absurd (first-some ws (filter-some ws (subst (λ z. 1 ≤ length z) (sym is) (omega arith))) (ap (λ z. first_of (λ m. m) z 0) is ∙ ap (λ z. get_or z 0 0) h ∙ eqb-true w 0 e))
    on false e h more = next (more (ap (drop 1) h))
      where
        next : Dense ws → Dense (w ∷ ws)
        next d zero low none = absurd (false≢true (sym e ∙ eq-eqb w 0 none))
        next d (suc k) low none = d k (omega (arith, low)) none

no-word-zeros : (ws : List ℕ) → (HasWord ws → ⊥) → AreZeros ws
no-word-zeros [] h = tt
no-word-zeros (w ∷ ws) h = (here (eqb w 0) refl, no-word-zeros ws (λ r. h (record { at = suc r.at; low = omega (arith, r.low); some = r.some })))
  where
    here : (b : Bool) → eqb w 0 ≡ b → w ≡ 0
    here true e = eqb-true w 0 e
    here false e = absurd (h (record { at = 0; low = omega arith; some = λ z. false≢true (sym e ∙ eq-eqb w 0 z) }))

-- ---- the words of a task block

pub further-none : (s : List ℕ) (t : ℕ) → is_guest_id (id_in s t) ≡ false → Holds s (fault_words (lists_in s).version (task_in s t))
further-none s t resident =
    (refl, (refl, subst (λ b. Holds s (row_from t 23 (cond b (filled (head_words_of (lists_in s).version - 23) (drop 1 (task_in s t).modules)) []))) (sym resident) tt))

module _ (s : List ℕ) (t : ℕ) (can : CanPass s t) (guest : is_guest_id (id_in s t) ≡ true) (first : get_or s (t + 10) 0 ≡ first_of (λ m. m) (task_in s t).modules 0)
    (ws : List ℕ) (a n : ℕ) (is : ws ≡ slice_range s a (a + n)) (at : a ≡ t + 23) (size : n ≡ head_words s - 23) where
  head-low : 23 ≤ head_words s
  head-low = on (eqb (get_or s 111 0) 2)
    where
      on : (v : Bool) → 23 ≤ cond v 30 23
      on true = omega arith
      on false = omega arith

  fits : t + 23 + n ≤ length s
  fits = (let whole : t + cond (is_guest_id (id_in s t)) (head_words s) 23 ≤ length s = can.whole in
      let w : t + head_words s ≤ length s = subst (λ b. t + cond b (head_words s) 23 ≤ length s) guest whole in omega (arith, w, size, head-low))

  words-are : ws ≡ slice_range s (t + 23) (t + 23 + n)
  words-are = is ∙ ap (λ z. slice_range s z (z + n)) at

  count : length ws ≡ n
  count = ap length words-are ∙ length-range s (t + 23) n fits

  later : List ℕ
  later = slice_range s (t + 23) (t + head_words s)

  modules-are : (task_in s t).modules ≡ filter (λ m. not (eqb m 0)) (get_or s (t + 10) 0 ∷ ws)
  modules-are =
      let end : t + head_words s ≡ t + 23 + n = omega (arith, size, head-low) in
      let e : slice_range s (t + 23) (t + head_words s) ≡ ws = ap (slice_range s (t + 23)) end ∙ sym words-are in
      ap (λ g. filter (λ m. not (eqb m 0)) (get_or s (t + 10) 0 ∷ cond g (slice_range s (t + 23) (t + head_words s)) [])) guest ∙ ap (λ z. filter (λ m. not (eqb m 0)) (get_or s (t + 10) 0 ∷ z)) e

  dense-is : filled (length ws) (drop 1 (filter (λ m. not (eqb m 0)) (get_or s (t + 10) 0 ∷ ws))) ≡ ws ↔ IsDense ws
  dense-is = on (eqb (get_or s (t + 10) 0) 0) refl
    where
      on : (b : Bool) → eqb (get_or s (t + 10) 0) 0 ≡ b
          → filled (length ws) (drop 1 (cond (not b) (get_or s (t + 10) 0 ∷ filter (λ m. not (eqb m 0)) ws) (filter (λ m. not (eqb m 0)) ws))) ≡ ws ↔ IsDense ws
      on true e =
          let none : get_or s (t + 10) 0 ≡ 0 = eqb-true (get_or s (t + 10) 0) 0 e in
          let z : AreZeros ws = no-word-zeros ws (λ r. first-some ws r (sym (skip-first (get_or s (t + 10) 0) ws none) ∙ ap (λ m. first_of (λ x. x) m 0) (sym modules-are) ∙ sym first ∙ none)) in
          (λ h k low q. zeros-dense ws z (k + 1), λ d. ap (λ x. filled (length ws) (drop 1 x)) (zeros-none ws z) ∙ zeros-filled ws z)
      on false e = (λ h. from-dense ws (filled-dense ws h), λ d. dense-filled ws (to-dense ws d))

  holds-words : Holds s (row_from t 23 (filled n (drop 1 (task_in s t).modules))) ↔ IsDense ws
  holds-words = (
    λ h. (let xs : List ℕ = filled n (drop 1 (task_in s t).modules) in
        let size-of : length xs ≡ n = length-filled n (drop 1 (task_in s t).modules) in
        let same : xs ≡ ws = row-is s t 23 xs (omega (arith, size-of, fits)) h ∙ ap (λ z. slice_range s (t + 23) (t + 23 + z)) size-of ∙ sym words-are in
        dense-is.0 ((λ i. filled (count i) (drop 1 (sym modules-are i))) ∙ same)),
    λ d. (let same : filled n (drop 1 (task_in s t).modules) ≡ ws = (λ i. filled (sym count i) (drop 1 (modules-are i))) ∙ dense-is.1 d in
        subst (λ z. Holds s (row_from t 23 z)) (sym (same ∙ words-are)) (is-row s t 23 n fits)),
  )

  version-size : head_words_of (lists_in s).version - 23 ≡ n
  version-size = omega (arith, head-is s, size)

  pub further-words : IsDense ws ↔ Holds s (fault_words (lists_in s).version (task_in s t))
  further-words = (
    λ d. (
      refl,
      (
        refl,
        subst (λ b. Holds s (row_from t 23 (cond b (filled (head_words_of (lists_in s).version - 23) (drop 1 (task_in s t).modules)) []))) (sym guest)
            (subst (λ z. Holds s (row_from t 23 (filled z (drop 1 (task_in s t).modules)))) (sym version-size) (holds-words.1 d)),
      ),
    ),
    λ h. holds-words.0 (subst (λ z. Holds s (row_from t 23 (filled z (drop 1 (task_in s t).modules)))) version-size
        (subst (λ b. Holds s (row_from t 23 (cond b (filled (head_words_of (lists_in s).version - 23) (drop 1 (task_in s t).modules)) []))) guest h.1.1)),
  )
