-- What becomes known where ranges are claimed, released, or shown to an empty map.
use Rattle.std.proofs.Common.{◌≡◌, ◌↔◌, ℕ, ◌+◌, ◌<◌, ◌≤◌, ◌&&◌, ◌||◌, Bool, true, false, List, cond, leb, length, ltb, refl, replicate, sym, ap, ◌∙◌, arith, inl, inr}
use Rattle.std.specs.List.{range_with_len}
use Rattle.std.proofs.lemmas.Bool.{cases_lt, false≢true}
use Rattle.std.proofs.lemmas.Bool.Decides.{nat_tests}
use Rattle.std.proofs.lemmas.List.{get_or-replicate, get_or_past, length-replicate}
use Rattle.word_store.specs.Count.{IsApart, times}
use Rattle.word_store.proofs.Counts.{times-above, times-below, times-within}
use Rattle.kernel_model.specs.KernelRecord.Lists.{Lists}
use Rattle.kernel_model.specs.KernelRecord.KernelRanges.{is_kernel_word, kernel_ranges}
use Rattle.kernel_model.specs.WordKinds.ByteMap.{AreShown, IsSet, MarksAll, is_marked}
use Rattle.kernel_model.specs.WordKinds.Keeper.{AreTogether, IsStoreOf}

-- a word is one of the n from `first` on, or is before them, or behind them
data Place (a first n : ℕ) : Type 0 where
  Inside : first ≤ a → a < first + n → Place a first n
  Outside : times a (range_with_len first n) ≡ 0 → (leb first a && ltb a (first + n)) ≡ false → Place a first n

place : (a first n : ℕ) → Place a first n
place a first n =
    elim (cases_lt a first) [
      | inl before ↦ Outside (times-below a first n before) (grind (arith, nat_tests, before))
      | inr low ↦ elim (cases_lt a (first + n)) [
        | inl high ↦ Inside (omega (arith, low)) high
        | inr behind ↦ Outside (times-above a first n (omega (arith, behind))) (grind (arith, nat_tests, behind))
      ]
    ]

pub inside : (a first n : ℕ) → first ≤ a → a < first + n → (leb first a && ltb a (first + n)) ≡ true
inside a first n above below = grind (arith, nat_tests, above, below)

-- what is marked as it was is known as it was
kept : (x y : Bool) (n m : ℕ) → y ≡ x → ((x ≡ true) ↔ (0 < n)) → m ≡ n → (y ≡ true) ↔ (0 < m)
kept x y n m e both same = (λ t. omega (arith, both.0 (sym e ∙ t), same), λ some. e ∙ both.1 (omega (arith, some, same)))

marked : (y : Bool) (m : ℕ) → y ≡ true → 0 < m → (y ≡ true) ↔ (0 < m)
marked y m e some = (λ t. some, λ t. e)

unmarked : (y : Bool) (m : ℕ) → y ≡ false → m ≡ 0 → (y ≡ true) ↔ (0 < m)
unmarked y m e none = (λ t. absurd (false≢true (sym e ∙ t)), λ some. absurd (omega (arith, some, none)))

module _ (old new : List Bool) (first n : ℕ) (before after : List ℕ) (known : MarksAll old before) where
  -- behind the last mark nothing is marked
  past : (a : ℕ) → length old ≤ a → times a before ≡ 0
  past a high = elim (cases_lt 0 (times a before)) [ inl some ↦ absurd (false≢true (sym (get_or_past old a false high) ∙ (known a).1 some)) | inr none ↦ omega (arith, none) ]

  pub claimed-marks : IsSet old new first n true → first + n ≤ length old → AreTogether after before (range_with_len first n) → MarksAll new after
  claimed-marks set room all a =
      elim (cases_lt a (length old)) [
        | inl low ↦ elim (place a first n) [
          | Inside above below ↦
              marked (is_marked new a) (times a after) (set.marks a low ∙ ap (λ b. cond b true (is_marked old a)) (inside a first n above below)) (omega (arith, all a, times-within a first n above below))
          | Outside none test ↦
              kept (is_marked old a) (is_marked new a) (times a before) (times a after) (set.marks a low ∙ ap (λ b. cond b true (is_marked old a)) test) (known a) (omega (arith, all a, none))
        ]
        | inr high ↦
            unmarked (is_marked new a) (times a after) (get_or_past new a false (omega (arith, set.size, high)))
            (omega (arith, all a, past a (omega (arith, high)), times-above a first n (omega (arith, room, high))))
      ]

  pub released-marks : IsSet old new first n false → IsApart before → AreTogether before after (range_with_len first n) → MarksAll new after
  released-marks set apart all a =
      elim (cases_lt a (length old)) [
        | inl low ↦ elim (place a first n) [
          | Inside above below ↦
              unmarked (is_marked new a) (times a after) (set.marks a low ∙ ap (λ b. cond b false (is_marked old a)) (inside a first n above below))
              (omega (arith, all a, apart a, times-within a first n above below))
          | Outside none test ↦
              kept (is_marked old a) (is_marked new a) (times a before) (times a after) (set.marks a low ∙ ap (λ b. cond b false (is_marked old a)) test) (known a) (omega (arith, all a, none))
        ]
        | inr high ↦ unmarked (is_marked new a) (times a after) (get_or_past new a false (omega (arith, set.size, high))) (omega (arith, all a, past a (omega (arith, high))))
      ]

pub shown-known : (old new : List Bool) (s known : List ℕ) (l : Lists) → ((a : ℕ) → is_marked old a ≡ false) → AreShown old new (kernel_ranges s) → IsStoreOf s known l → length s ≡ length old
    → MarksAll new known
shown-known old new s known l none shown is size a =
    elim (cases_lt a (length old)) [
      | inl low ↦ kept (is_kernel_word s a) (is_marked new a) (times a known) (times a known) (shown.marks a low ∙ ap (λ b. b || is_kernel_word s a) (none a)) (is.kernel a) refl
      | inr high ↦ unmarked (is_marked new a) (times a known) (get_or_past new a false (omega (arith, shown.size, high))) (far (omega (arith, high)))
    ]
  where
    far : length old ≤ a → times a known ≡ 0
    far high =
        elim (cases_lt 0 (times a known)) [
          | inl some ↦ absurd (omega (arith, high, size, is.lists.size, is.lists.valid.owns.inside a (omega (arith, some, is.addresses a))))
          | inr none ↦ omega (arith, none)
        ]

pub none-marked : (n a : ℕ) → is_marked (replicate n false) a ≡ false
none-marked n a = elim (cases_lt a n) [ inl low ↦ get_or-replicate n a false false low | inr high ↦ get_or_past (replicate n false) a false (omega (arith, high, length-replicate n false)) ]
