-- A map with a mark for each word, from word 0 on.
use Rattle.std.specs.Prelude.{◌≡◌, ◌↔◌, ℕ, ◌+◌, ◌<◌, ◌&&◌, ◌||◌, Bool, true, false, if◌then◌else◌, nat_le, nat_lt, List, [], ◌++◌, length, slice_index_or}
use Rattle.std.specs.List.{list_any}
use Rattle.std.proofs.Common.{ap, refl, subst, sym, ◌∙◌}
use Rattle.std.proofs.lemmas.List.Folds.{list_any-append}
use Rattle.word_store.specs.Count.{times}
use Rattle.kernel_model.specs.KernelRecord.KernelRanges.{Words, meets}
use Rattle.std.proofs.Math.Bool.{or-false, or_assoc}

-- whether the word is marked; there is no mark after the last one
abbrev pub is_marked : List Bool → ℕ → Bool
is_marked marks a = slice_index_or marks a false

-- n words from `first` on, as far as there are marks, are marked so, and all others are as they were
pub record IsSet (before after : List Bool) (first n : ℕ) (value : Bool) : Type 0 where
  -- there are as many marks as before
  pub size : length after ≡ length before
  -- the marks of these words are as given, and the others as before
  pub marks : (a : ℕ) → a < length before
      → is_marked after a ≡ (if nat_le first a && nat_lt a (first + n) then value else is_marked before a)

-- the words of these ranges, as far as there are marks, are marked, and all others are as they were
pub record AreShown (before after : List Bool) (ws : List Words) : Type 0 where
  -- there are as many marks as before
  pub size : length after ≡ length before
  -- a word is marked that was marked, or is in a range
  pub marks : (a : ℕ) → a < length before → is_marked after a ≡ (is_marked before a || list_any (meets a (a + 1)) ws)

-- the marked words are those that are listed
abbrev pub MarksAll : List Bool → List ℕ → Type 0
MarksAll marks known = (a : ℕ) → (is_marked marks a ≡ true) ↔ (0 < times a known)

pub shown-none : (v : List Bool) → AreShown v v []
shown-none v = record { size = refl; marks = λ a low. sym (or-false (is_marked v a)) }

pub shown-both : (u v w : List Bool) (xs ys : List Words) → AreShown u v xs → AreShown v w ys → AreShown u w (xs ++ ys)
shown-both u v w xs ys one two = record {
  size = two.size ∙ one.size;
  marks = λ a low.
      let f : Words → Bool = meets a (a + 1) in
      two.marks a (subst (λ n. a < n) (sym one.size) low)
      ∙ (ap (λ z. z || list_any f ys) (one.marks a low) ∙ (or_assoc (is_marked u a) (list_any f xs) (list_any f ys) ∙ ap (λ z. is_marked u a || z) (sym (list_any-append f xs ys))));
}
