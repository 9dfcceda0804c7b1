-- Words that are compared with those of hunks that are loaded.
use Rattle.std.proofs.Common.{◌≡◌, ◌≢◌, ◌∙◌, ℕ, ◌+◌, ◌<◌, ◌≤◌, ◌==◌, ◌&&◌, Bool, true, false, if◌then◌else◌, List, [], ◌∷◌, ◌++◌, length, get_or, set, drop, nat_eq, refl, sym, ap, arith, length-set}
use Rattle.std.specs.List.{starts_with}
use Rattle.std.proofs.lemmas.Bool.{eq-eqb, eqb-false, eqb-true, ne_eqb}
use Rattle.std.proofs.lemmas.List.{at_drop_more, drop_all, drop_more, get_or-set_other, get_or-set_same, nil_from_length}
use Rattle.module_text.specs.declared.modules.Hunk.{Hunk}
use Rattle.word_store.specs.Arithmetic.{add}
use Rattle.kernel_lists.specs.HunkLoader.ModuleRow.{hunks_image}
use Rattle.kernel_lists.specs.HunkLoader.RelocatedWords.{relocated}
use Rattle.kernel_lists.proofs.HunkLoader.RelocationLists.{length-relocated}

-- ---- a word of a hunk

-- the base was added to word i once for each of the offsets that is i
abbrev pub relocated_one : ℕ → ℕ → ℕ → List ℕ → ℕ
relocated_one base i w [] = w
relocated_one base i w (o ∷ os) = relocated_one base i (if o == i then add w base else w) os

set-at : (base o i : ℕ) (words : List ℕ) → i < length words
    → get_or (set words o (add (get_or words o 0) base)) i 0 ≡ (if o == i then add (get_or words i 0) base else get_or words i 0)
set-at base o i words inside = on (o == i) refl
  where
    w : ℕ
    w = add (get_or words o 0) base

    on : (b : Bool) → (o == i) ≡ b → get_or (set words o w) i 0 ≡ (if b then add (get_or words i 0) base else get_or words i 0)
    on true is = let same : o ≡ i = eqb-true o i is in (λ k. get_or (set words (same k) (add (get_or words (same k) 0) base)) i 0) ∙ get_or-set_same words i (add (get_or words i 0) base) 0 inside
    on false is = get_or-set_other words o i w 0 (λ same. eqb-false o i is (sym same))

pub relocated-at : (base i : ℕ) (words os : List ℕ) → i < length words → get_or (relocated base words os) i 0 ≡ relocated_one base i (get_or words i 0) os
relocated-at base i words [] inside = refl
relocated-at base i words (o ∷ os) inside =
    let w = add (get_or words o 0) base in
    relocated-at base i (set words o w) os (rw (length-set words o w) inside) ∙ ap (λ x. relocated_one base i x os) (set-at base o i words inside)

-- one offset more, and none more
module _ (base i w k : ℕ) (os : List ℕ) where
  relocated-next : (v : ℕ) → k < length os → v ≡ (if get_or os k 0 == i then add w base else w)
      → relocated_one base i v (drop (k + 1) os) ≡ relocated_one base i w (drop k os)
  relocated-next v inside is = ap (λ x. relocated_one base i x (drop (k + 1) os)) is ∙ sym (at_drop_more (relocated_one base i w) os k 0 inside)

  pub relocated-here : (v : ℕ) → k < length os → get_or os k 0 ≡ i → v ≡ add w base → relocated_one base i v (drop (k + 1) os) ≡ relocated_one base i w (drop k os)
  relocated-here v inside same is = relocated-next v inside (is ∙ sym (ap (λ b. if b then add w base else w) (eq-eqb (get_or os k 0) i same)))

  pub relocated-past : (v : ℕ) → k < length os → get_or os k 0 ≢ i → v ≡ w → relocated_one base i v (drop (k + 1) os) ≡ relocated_one base i w (drop k os)
  relocated-past v inside other is = relocated-next v inside (is ∙ sym (ap (λ b. if b then add w base else w) (ne_eqb (get_or os k 0) i other)))

  pub relocated-end : length os ≤ k → relocated_one base i w (drop k os) ≡ w
  relocated-end all = ap (relocated_one base i w) (drop_all k os all)

-- ---- what words begin with

module _ (xs ys : List ℕ) (k : ℕ) where
  begins : k < length ys → starts_with nat_eq xs (drop k ys) ≡ starts_with nat_eq xs (get_or ys k 0 ∷ drop (k + 1) ys)
  begins inside = at_drop_more (starts_with nat_eq xs) ys k 0 inside

  -- no word is left, and one is wanted
  pub starts-none : length xs < 1 → k < length ys → false ≡ starts_with nat_eq xs (drop k ys)
  starts-none none inside = sym (begins inside ∙ ap (λ (zs : List ℕ). starts_with nat_eq zs (get_or ys k 0 ∷ drop (k + 1) ys)) (nil_from_length xs (omega (arith, none))))

  -- another one is wanted
  pub starts-other : 1 ≤ length xs → k < length ys → get_or xs 0 0 ≢ get_or ys k 0 → false ≡ starts_with nat_eq xs (drop k ys)
  starts-other some inside other = sym (begins inside ∙ ap (λ (zs : List ℕ). starts_with nat_eq zs (get_or ys k 0 ∷ drop (k + 1) ys)) (drop_more xs 0 0 some)
      ∙ ap (λ b. b && starts_with nat_eq (drop 1 xs) (drop (k + 1) ys)) (ne_eqb (get_or ys k 0) (get_or xs 0 0) (λ same. other (sym same))))

  -- none is wanted
  pub starts-end : length ys ≤ k → true ≡ starts_with nat_eq xs (drop k ys)
  starts-end all = sym (ap (starts_with nat_eq xs) (drop_all k ys all))

-- they begin with some words, and then with others
pub starts-both : (xs ys zs : List ℕ) → starts_with nat_eq xs (ys ++ zs) ≡ (starts_with nat_eq xs ys && starts_with nat_eq (drop (length ys) xs) zs)
starts-both xs [] zs = refl
starts-both [] (y ∷ ys) zs = refl
starts-both (x ∷ xs) (y ∷ ys) zs = on (nat_eq y x) (starts-both xs ys zs)
  where
    on : (b : Bool) → starts_with nat_eq xs (ys ++ zs) ≡ (starts_with nat_eq xs ys && starts_with nat_eq (drop (length ys) xs) zs)
        → (b && starts_with nat_eq xs (ys ++ zs)) ≡ ((b && starts_with nat_eq xs ys) && starts_with nat_eq (drop (length ys) xs) zs)
    on true more = more
    on false more = refl

module _ (xs ys zs : List ℕ) where
  pub both-other : false ≡ starts_with nat_eq xs ys → false ≡ starts_with nat_eq xs (ys ++ zs)
  both-other other = ap (λ b. b && starts_with nat_eq (drop (length ys) xs) zs) other ∙ sym (starts-both xs ys zs)

  pub both-next : (n : ℕ) → length ys ≡ n → true ≡ starts_with nat_eq xs ys → starts_with nat_eq xs (ys ++ zs) ≡ starts_with nat_eq (drop n xs) zs
  both-next n many first = starts-both xs ys zs ∙ ap (λ b. b && starts_with nat_eq (drop (length ys) xs) zs) (sym first) ∙ ap (λ m. starts_with nat_eq (drop m xs) zs) many

-- ---- the words of a hunk, and those of the hunks after it

module _ (xs : List ℕ) (base k : ℕ) (hs : List Hunk) (h : Hunk) (inside : k < length hs) (is : h ≡ get_or hs k h) where
  images-at : starts_with nat_eq xs (hunks_image base (drop k hs)) ≡ starts_with nat_eq xs (hunks_image base (h ∷ drop (k + 1) hs))
  images-at = at_drop_more (λ gs. starts_with nat_eq xs (hunks_image base gs)) hs k h inside ∙ ap (λ (g : Hunk). starts_with nat_eq xs (hunks_image base (g ∷ drop (k + 1) hs))) (sym is)

  pub images-other : false ≡ starts_with nat_eq xs (relocated base h.words h.relocations) → false ≡ starts_with nat_eq xs (hunks_image base (drop k hs))
  images-other other = both-other xs (relocated base h.words h.relocations) (hunks_image (base + length h.words) (drop (k + 1) hs)) other ∙ sym images-at

  pub images-next : true ≡ starts_with nat_eq xs (relocated base h.words h.relocations)
      → starts_with nat_eq xs (hunks_image base (drop k hs)) ≡ starts_with nat_eq (drop (length h.words) xs) (hunks_image (base + length h.words) (drop (k + 1) hs))
  images-next first = images-at ∙ both-next xs (relocated base h.words h.relocations) (hunks_image (base + length h.words) (drop (k + 1) hs)) (length h.words) (length-relocated base h.words h.relocations) first
