-- Words that were claimed one range after the other.
use Rattle.std.proofs.Common.{◌≡◌, ◌↔◌, ℕ, ◌+◌, ◌<◌, ◌≤◌, ◌&&◌, Bool, true, false, List, [], ◌++◌, cond, leb, length, ltb, refl, sym, ap, ◌∙◌, arith, inl, inr}
use Rattle.std.specs.List.{range_with_len}
use Rattle.std.proofs.lemmas.Bool.{cases_lt, false≢true}
use Rattle.std.proofs.lemmas.Bool.Decides.{nat_tests}
use Rattle.std.proofs.lemmas.List.{get_or_past}
use Rattle.word_store.specs.Count.{times}
use Rattle.word_store.proofs.Counts.{times-above, times-append, times-below, times-within}
use Rattle.store_claims.specs.WordClaims.Marks.{AreClaimed, AreOpen, IsSet, is_open}
use Rattle.kernel_model.proofs.WordKinds.Marks.{inside}

-- a word is one of the n from `first` on, or is before them, or behind them
pub data Place (a first n : ℕ) : Type 0 where
  Inside : first ≤ a → a < first + n → Place a first n
  Outside : times a (range_with_len first n) ≡ 0 → (leb first a && ltb a (first + n)) ≡ false → Place a first n

pub place : (a first n : ℕ) → Place a first n
place a first n =
    elim (cases_lt a first) [
      | inl before ↦ Outside (times-below a first n before) (grind (arith, nat_tests, before))
      | inr low ↦ elim (cases_lt a (first + n)) [
        | inl high ↦ Inside (omega (arith, low)) high
        | inr behind ↦ Outside (times-above a first n (omega (arith, behind))) (grind (arith, nat_tests, behind))
      ]
    ]

-- an open word has a mark
pub open-low : (marks : List Bool) (a : ℕ) → is_open marks a ≡ true → a < length marks
open-low marks a are_open =
    elim (cases_lt a (length marks)) [ inl low ↦ low | inr high ↦ absurd (false≢true (sym (get_or_past marks a false (omega (arith, high))) ∙ are_open)) ]

pub nothing-claimed : (marks : List Bool) → AreClaimed marks marks []
nothing-claimed marks = record { size = refl; marks = λ a. (λ t. (t, refl), λ h. h.0) }

module _ (before now new : List Bool) (claimed : List ℕ) (first n : ℕ) (c : AreClaimed before now claimed) (are_open : AreOpen now first n) (set : IsSet now new first n false) where
  -- a range is claimed besides
  pub claimed-more : AreClaimed before new (claimed ++ range_with_len first n)
  claimed-more = record { size = set.size ∙ c.size; marks = marks }
    where
      both : (a : ℕ) → times a (claimed ++ range_with_len first n) ≡ times a claimed + times a (range_with_len first n)
      both a = times-append a claimed (range_with_len first n)

      marks : (a : ℕ) → (is_open new a ≡ true) ↔ ((is_open before a ≡ true) × (times a (claimed ++ range_with_len first n) ≡ 0))
      marks a = elim (cases_lt a (length now)) [
        | inl low ↦ elim (place a first n) [
          | Inside above below ↦
              let shut : is_open new a ≡ false = set.marks a low ∙ ap (λ b. cond b false (is_open now a)) (inside a first n above below) in (
                λ t. absurd (false≢true (sym shut ∙ t)),
                λ h. absurd (omega (arith, h.1, both a, times-within a first n above below)),
              )
          | Outside none test ↦
              let same : is_open new a ≡ is_open now a = set.marks a low ∙ ap (λ b. cond b false (is_open now a)) test in (
                λ t. (let h = (c.marks a).0 (sym same ∙ t) in (h.0, omega (arith, h.1, both a, none))),
                λ h. same ∙ (c.marks a).1 (h.0, omega (arith, h.1, both a)),
              )
        ]
        | inr high ↦
            let shut : is_open new a ≡ false = get_or_past new a false (omega (arith, high, set.size)) in (
              λ t. absurd (false≢true (sym shut ∙ t)),
              λ h. absurd (omega (arith, high, c.size, open-low before a h.0)),
            )
      ]
