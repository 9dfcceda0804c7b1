-- Words that are written over zeros, found by their address: where addresses and words are numbers, this computes.
use Rattle.std.proofs.Common.{◌≡◌, ◌≢◌, ℕ, ◌<◌, ◌≤◌, Bool, true, false, List, [], ◌∷◌, length, get_or, map, replicate, set, eqb, cond, ◌&&◌, refl, ap, ◌∙◌, arith, get_or-set_other, get_or-set_same}
use Rattle.std.proofs.lemmas.Bool.{and_parts, leb-true}
use Rattle.std.proofs.lemmas.Bool.Decides.{nat_tests}
use Rattle.std.proofs.lemmas.List.{get_or-replicate, length-replicate}
use Rattle.std.specs.Prelude.{nat_le}
use Rattle.word_store.proofs.Counts.{hit-other}
use Rattle.kernel_lists.specs.OwnedWords.Owned.{Holds, Pairs, owners, written}
use Rattle.kernel_lists.proofs.OwnedWords.OwnedWords.{length-written, written-other}

-- the word at the address, where all others are 0
abbrev pub word_among : Pairs → ℕ → ℕ
word_among [] a = 0
word_among (e ∷ es) a = cond (eqb a e.0) e.1 (word_among es a)

-- all addresses are below 1,000
abbrev pub are_low : Pairs → Bool
are_low [] = true
are_low (e ∷ es) = nat_le e.0 999 && are_low es

-- above them nothing is written
pub none-high : (es : Pairs) (a : ℕ) → are_low es ≡ true → 1000 ≤ a → owners a es ≡ 0
none-high [] a low high = refl
none-high (e ∷ es) a low high =
    let parts = and_parts (nat_le e.0 999) (are_low es) low in
    let near : e.0 ≤ 999 = leb-true e.0 999 parts.0 in
    omega (arith, hit-other a e.0 (λ same. absurd (omega (arith, same, near, high))), none-high es a parts.1 high)

module _ (n : ℕ) (large : 1024 ≤ n) where
  abbrev zeros : List ℕ
  zeros = replicate n 0

  size : length zeros ≡ n
  size = length-replicate n 0

  pub found : (es : Pairs) (a : ℕ) → are_low es ≡ true → a ≤ 999 → get_or (written es zeros) a 0 ≡ word_among es a
  found [] a low near = get_or-replicate n a 0 0 (omega (arith, near, large))
  found (e ∷ es) a low near =
      elim (eqb a e.0) as (λ b. eqb a e.0 ≡ b → get_or (set (written es zeros) e.0 e.1) a 0 ≡ cond b e.1 (word_among es a)) [
        | true ↦ λ t.
            (let same : a ≡ e.0 = grind (arith, nat_tests) in
            ap (λ z. get_or (set (written es zeros) e.0 e.1) z 0) same
            ∙ get_or-set_same (written es zeros) e.0 e.1 0 (omega (arith, same, near, large, length-written es zeros, size)))
        | false ↦ λ f.
            (let differ : a ≢ e.0 = grind (arith, nat_tests) in
            get_or-set_other (written es zeros) e.0 a e.1 0 differ ∙ found es a (and_parts (nat_le e.0 999) (are_low es) low).1 near)
      ] refl

  -- so words are where their addresses lead to them
  pub all-found : (es ws : Pairs) → are_low es ≡ true → are_low ws ≡ true → map (λ w. word_among es w.0) ws ≡ map (λ w. w.1) ws → Holds (written es zeros) ws
  all-found es [] low near same = tt
  all-found es (w ∷ ws) low near same =
      let parts = and_parts (nat_le w.0 999) (are_low ws) near in (
        found es w.0 low (leb-true w.0 999 parts.0) ∙ ap (λ xs. get_or xs 0 0) same,
        all-found es ws low parts.1 (ap (λ xs. tail xs) same),
      )
    where
      tail : List ℕ → List ℕ
      tail [] = []
      tail (x ∷ xs) = xs

  -- and the end word is 0
  pub end-zero : (es : Pairs) (a : ℕ) → are_low es ≡ true → 1000 ≤ a → a < n → get_or (written es zeros) a 0 ≡ 0
  end-zero es a low high inside = written-other a es zeros (none-high es a low high) ∙ get_or-replicate n a 0 0 inside
