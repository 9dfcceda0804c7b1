-- Words that are claimed one part after the other.
use Rattle.std.proofs.Common.{◌≡◌, ◌↔◌, ℕ, zero, suc, ◌+◌, ◌<◌, ◌≤◌, Bool, true, false, List, [], ◌++◌, refl, sym, ◌∙◌, arith}
use Rattle.std.specs.List.{range_with_len}
use Rattle.word_store.specs.Count.{IsApart, times}
use Rattle.word_store.proofs.Counts.{range-apart, range-high, range-low, times-append, times-within}
use Rattle.store_claims.specs.WordClaims.Marks.{AreClaimed, AreOpen, IsSet, is_open}
use Rattle.store_claims.proofs.WordClaims.ClaimedWords.{claimed-more, nothing-claimed}
use Rattle.store_claims.specs.ListClaims.ListWords.{Can, Claimable}

-- ---- no words

pub none-claimable : (m : List Bool) → Claimable m []
none-claimable m = record { are_open = λ a some. absurd (omega (arith, some)); apart = λ a. omega arith }

-- ---- one range

pub range-claimable : (m : List Bool) (a n : ℕ) → AreOpen m a n ↔ Claimable m (range_with_len a n)
range-claimable m a n = (
  λ all. record { are_open = λ b some. all b (range-low b a n some) (range-high b a n some); apart = range-apart a n },
  λ c b low high. c.are_open b (omega (arith, times-within b a n low high)),
)

pub range-claimed : (m v : List Bool) (a n : ℕ) → AreOpen m a n → IsSet m v a n false → AreClaimed m v (range_with_len a n)
range-claimed m v a n all set = claimed-more m m v [] a n (nothing-claimed m) all set

-- ---- two parts

module _ (m v : List Bool) (xs ys : List ℕ) (c : AreClaimed m v xs) where
  both : (a : ℕ) → times a (xs ++ ys) ≡ times a xs + times a ys
  both a = times-append a xs ys

  pub claimable-both : Claimable m xs → Claimable v ys → Claimable m (xs ++ ys)
  claimable-both one two = record { are_open = opened; apart = apart }
    where
      later : (a : ℕ) → 0 < times a ys → (is_open m a ≡ true) × (times a xs ≡ 0)
      later a some = (c.marks a).0 (two.are_open a some)

      opened : (a : ℕ) → 0 < times a (xs ++ ys) → is_open m a ≡ true
      opened a some = on (times a xs) refl
        where
          on : (k : ℕ) → times a xs ≡ k → is_open m a ≡ true
          on zero e = (later a (omega (arith, some, both a, e))).0
          on (suc k) e = one.are_open a (omega (arith, e))

      apart : IsApart (xs ++ ys)
      apart a = on (times a ys) refl
        where
          on : (k : ℕ) → times a ys ≡ k → times a (xs ++ ys) ≤ 1
          on zero e = omega (arith, both a, e, one.apart a)
          on (suc k) e = omega (arith, both a, (later a (omega (arith, e))).1, two.apart a)

  pub claimable-rest : Claimable m (xs ++ ys) → Claimable v ys
  claimable-rest all = record {
    are_open = λ a some. (c.marks a).1 (all.are_open a (omega (arith, some, both a)), omega (arith, some, both a, all.apart a));
    apart = λ a. omega (arith, both a, all.apart a);
  }

pub claimable-first : (m : List Bool) (xs ys : List ℕ) → Claimable m (xs ++ ys) → Claimable m xs
claimable-first m xs ys all = record {
  are_open = λ a some. all.are_open a (omega (arith, some, times-append a xs ys));
  apart = λ a. omega (arith, times-append a xs ys, all.apart a);
}

pub claimed-both : (m v w : List Bool) (xs ys : List ℕ) → AreClaimed m v xs → AreClaimed v w ys → AreClaimed m w (xs ++ ys)
claimed-both m v w xs ys c d = record {
  size = d.size ∙ c.size;
  marks = λ a. (
    λ t.
        let h = (d.marks a).0 t in
        let k = (c.marks a).0 h.0 in
        (k.0, omega (arith, times-append a xs ys, h.1, k.1)),
    λ h. (d.marks a).1 ((c.marks a).1 (h.0, omega (arith, h.1, times-append a xs ys)), omega (arith, h.1, times-append a xs ys)),
  );
}

-- ---- two walks

pub can-both : {P Q : Type 0} (m v : List Bool) (xs ys : List ℕ) → AreClaimed m v xs → Can P m xs → Can Q v ys → Can (P × Q) m (xs ++ ys)
can-both m v xs ys c one two = record { ends = (one.ends, two.ends); words = claimable-both m v xs ys c one.words two.words }

pub can-first : {P Q : Type 0} (m : List Bool) (xs ys : List ℕ) → Can (P × Q) m (xs ++ ys) → Can P m xs
can-first m xs ys all = record { ends = all.ends.0; words = claimable-first m xs ys all.words }

pub can-rest : {P Q : Type 0} (m v : List Bool) (xs ys : List ℕ) → AreClaimed m v xs → Can (P × Q) m (xs ++ ys) → Can Q v ys
can-rest m v xs ys c all = record { ends = all.ends.1; words = claimable-rest m v xs ys c all.words }

-- what a walk answers, and the one behind it
pub refused : {P Q : Type 0} (m : List Bool) (xs ys : List ℕ) (b : Bool) → ((b ≡ true) ↔ Can P m xs) → b ≡ false → Can (P × Q) m (xs ++ ys) → false ≡ true
refused m xs ys b answer not_so all = sym not_so ∙ answer.1 (can-first m xs ys all)

pub went-on : {P Q : Type 0} (m v : List Bool) (xs ys : List ℕ) (b d : Bool) → ((b ≡ true) ↔ Can P m xs) → b ≡ true → AreClaimed m v xs → ((d ≡ true) ↔ Can Q v ys)
    → (d ≡ true) ↔ Can (P × Q) m (xs ++ ys)
went-on m v xs ys b d answer so c rest = (
  λ t. can-both m v xs ys c (answer.0 so) (rest.0 t),
  λ all. rest.1 (can-rest m v xs ys c all),
)
