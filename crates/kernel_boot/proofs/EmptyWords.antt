-- The words of a kernel without tasks, modules and packets.
use Rattle.std.proofs.Common.{◌≡◌, ◌≢◌, ℕ, zero, suc, ◌+◌, ◌-◌, ◌<◌, ◌≤◌, List, [], ◌∷◌, ◌++◌, length, get_or, replicate, set, refl, ap, ◌∙◌, arith, get_or-set_other, get_or-set_same}
use Rattle.std.proofs.lemmas.List.{get_or-replicate, length-replicate}
use Rattle.word_store.specs.Count.{hit}
use Rattle.word_store.proofs.Counts.{hit-other, hit-same}
use Rattle.kernel_lists.specs.OwnedWords.Owned.{Holds, Pairs, owners, row_from, written}
use Rattle.kernel_lists.proofs.OwnedWords.OwnedWords.{Holds-append, length-written, written-other}
use Rattle.kernel_lists.specs.GetvecChain.Make.{made_store}
use Rattle.kernel_lists.specs.TaskBlock.ChainWords.{entries}
use Rattle.kernel_model.specs.KernelRecord.Owned.{owned}
use Rattle.kernel_model.specs.KernelRecord.Root.{root_words}
use Rattle.kernel_model.specs.KernelRecord.Task.{filled}
use Rattle.kernel_model.specs.KernelRecord.Versions.{highest_id_of}
use Rattle.kernel_boot.specs.Private.BootWords.{root_pairs}
use Rattle.kernel_boot.specs.EmptyKernel.{empty_lists}
use Rattle.kernel_model.proofs.KernelRecord.RootCounts.{highest-high}

-- what was written is there, where it was not written over
written-here : (front : Pairs) (b w : ℕ) (back : Pairs) (s : List ℕ) → owners b front ≡ 0 → b < length s → get_or (written (front ++ (b, w) ∷ back) s) b 0 ≡ w
written-here [] b w back s none inside = get_or-set_same (written back s) b w 0 (omega (arith, inside, length-written back s))
written-here (e ∷ es) b w back s none inside =
    let other : b ≢ e.0 = λ same. absurd (omega (arith, none, hit-same b e.0 same)) in
    get_or-set_other (written (es ++ (b, w) ∷ back) s) e.0 b e.1 0 other ∙ written-here es b w back s (omega (arith, none)) inside

module _ (n v p : ℕ) where
  -- the words of the root, the size word and the end word
  abbrev pub pairs : Pairs
  pairs = (n - 2, 0) ∷ (200, n - 202 + 1) ∷ root_pairs n v p

module _ (n v p : ℕ) (low : 1024 ≤ n) where
  abbrev top : ℕ
  top = highest_id_of v

  abbrev zeros : List ℕ
  zeros = replicate n 0

  abbrev words : List ℕ
  words = written (pairs n v p) zeros

  size : length zeros ≡ n
  size = length-replicate n 0

  far : (a : ℕ) → a ≤ 200 → hit a (n - 2) ≡ 0
  far a near = hit-other a (n - 2) (λ e. absurd (omega (arith, e, near, low)))

  zero-there : (a : ℕ) → a ≤ 199 → owners a ((200, n - 202 + 1) ∷ root_pairs n v p) ≡ 0 → get_or words a 0 ≡ 0
  zero-there a near none = written-other a (pairs n v p) zeros (omega (arith, far a (omega (arith, near)), none)) ∙ get_or-replicate n a 0 0 (omega (arith, near, low))

  zero-table : (a : ℕ) → 121 ≤ a → a ≤ 183 → get_or words a 0 ≡ 0
  zero-table a from to =
      zero-there a (omega (arith, to))
      (omega (
        arith,
        hit-other a 200 (λ e. absurd (omega (arith, e, to))),
        hit-other a 120 (λ e. absurd (omega (arith, e, from))),
        hit-other a 111 (λ e. absurd (omega (arith, e, from))),
        hit-other a 110 (λ e. absurd (omega (arith, e, from))),
        hit-other a 109 (λ e. absurd (omega (arith, e, from))),
        hit-other a 103 (λ e. absurd (omega (arith, e, from))),
        hit-other a 100 (λ e. absurd (omega (arith, e, from))),
      ))

  zero-row : (i k : ℕ) → 1 ≤ i → i + k ≤ 64 → Holds words (row_from 120 i (filled k []))
  zero-row i zero from to = tt
  zero-row i (suc k) from to = (zero-table (120 + i) (omega (arith, from)) (omega (arith, to)), zero-row (suc i) k (omega arith) (omega (arith, to)))

  zero-entries : (i k : ℕ) → 1 ≤ i → i + k ≤ 64 → Holds words (entries (λ j. 0) i k)
  zero-entries i zero from to = tt
  zero-entries i (suc k) from to = (zero-table (120 + i) (omega (arith, from)) (omega (arith, to)), zero-entries (i + 1) k (omega arith) (omega (arith, to)))

  inside : (a : ℕ) → a ≤ 200 → a < length zeros
  inside a near = omega (arith, near, low, size)

  -- a word of the root that was written, behind these
  here : (front : Pairs) (b w : ℕ) (back : Pairs) → b ≤ 199 → (pairs n v p) ≡ (n - 2, 0) ∷ (front ++ (b, w) ∷ back) → owners b front ≡ 0 → get_or words b 0 ≡ w
  here front b w back near is none =
      ap (λ z. get_or (written z zeros) b 0) is
      ∙ written-here ((n - 2, 0) ∷ front) b w back zeros (omega (arith, none, far b (omega (arith, near)))) (inside b (omega (arith, near)))

  abbrev block : Pairs
  block = (200, n - 202 + 1) ∷ []

  holds-root : Holds words (root_words (empty_lists v p n) 0)
  holds-root = (
    here (block ++ (120, top) ∷ (111, v) ∷ (110, p) ∷ (109, n) ∷ (103, 200) ∷ []) 100 120 [] (omega arith) refl refl,
    (
      zero-there 102 (omega arith) refl,
      (
        here (block ++ (120, top) ∷ (111, v) ∷ (110, p) ∷ (109, n) ∷ []) 103 200 ((100, 120) ∷ []) (omega arith) refl refl,
        (
          zero-there 108 (omega arith) refl,
          (
            here (block ++ (120, top) ∷ (111, v) ∷ (110, p) ∷ []) 109 n ((103, 200) ∷ (100, 120) ∷ []) (omega arith) refl refl,
            (
              here (block ++ (120, top) ∷ (111, v) ∷ []) 110 p ((109, n) ∷ (103, 200) ∷ (100, 120) ∷ []) (omega arith) refl refl,
              (
                here (block ++ (120, top) ∷ []) 111 v ((110, p) ∷ (109, n) ∷ (103, 200) ∷ (100, 120) ∷ []) (omega arith) refl refl,
                (
                  zero-there 112 (omega arith) refl,
                  (
                    zero-there 113 (omega arith) refl,
                    (
                      zero-there 114 (omega arith) refl,
                      (
                        zero-there 115 (omega arith) refl,
                        (
                          zero-there 116 (omega arith) refl,
                          (
                            zero-there 117 (omega arith) refl,
                            (
                              zero-there 118 (omega arith) refl,
                              (
                                zero-there 119 (omega arith) refl,
                                (
                                  here block 120 top ((111, v) ∷ (110, p) ∷ (109, n) ∷ (103, 200) ∷ (100, 120) ∷ []) (omega arith) refl refl,
                                  Holds-append words (row_from 120 (top + 1) (filled (63 - top) [])) ((n - 2, 0) ∷ []) (zero-row (top + 1) (63 - top) (omega arith) (omega (arith, highest-high v))) (written-here [] (n - 2) 0 ((200, n - 202 + 1) ∷ root_pairs n v p) zeros refl (omega (arith, size, low)), tt),
                                ),
                              ),
                            ),
                          ),
                        ),
                      ),
                    ),
                  ),
                ),
              ),
            ),
          ),
        ),
      ),
    ),
  )

  pub holds-empty : Holds words (owned (empty_lists v p n))
  unfolding owned
  holds-empty =
      Holds-append words (root_words (empty_lists v p n) 0) _ holds-root (
        written-here ((n - 2, 0) ∷ []) 200 (n - 202 + 1) (root_pairs n v p) zeros (omega (arith, far 200 (omega arith))) (inside 200 (omega arith)),
        Holds-append words (entries (λ j. 0) 1 top ++ (101, 0) ∷ []) _
            (Holds-append words (entries (λ j. 0) 1 top) ((101, 0) ∷ []) (zero-entries 1 top (omega arith) (omega (arith, highest-high v))) (zero-there 101 (omega arith) refl, tt))
            (zero-there 104 (omega arith) refl, (zero-there 105 (omega arith) refl, (zero-there 106 (omega arith) refl, (zero-there 107 (omega arith) refl, tt)))),
      )

-- the one free block is made of a store of n words
pub made-block : (s : List ℕ) (n : ℕ) → length s ≡ n → made_store s ≡ set (set s 200 (n - 202 + 1)) (n - 2) 0
made-block s n size = ap (λ k. set (set s 200 (k - 202 + 1)) (k - 2) 0) size
