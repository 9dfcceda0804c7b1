-- A search that was shown ranges.
use Rattle.std.specs.Prelude.{◌≡◌, ◌||◌, Bool, true, false, List, [], ◌++◌, refl}
use Rattle.std.proofs.Common.{ap, sym, ◌∙◌}
use Rattle.std.specs.List.{list_any}
use Rattle.std.proofs.lemmas.List.Folds.{list_any-append}
use Rattle.kernel_model.specs.KernelRecord.KernelRanges.{Words, meets}
use Rattle.kernel_model.specs.declared.word_kinds.search.Search.{Search}
use Rattle.std.proofs.Math.Bool.{or-false, or_assoc}

-- after it was shown these ranges, a search looks for the same words, and has found one where it had before, or where one of them
-- is in the ranges
pub record Searched (u v : Search) (ws : List Words) : Type 0 where
  -- from the same word
  pub from : v.from ≡ u.from
  -- up to before the same one
  pub to : v.to ≡ u.to
  -- where one is in a range, it is found
  pub found : v.found ≡ (u.found || list_any (meets u.from u.to) ws)

-- before any range it has found what it had found
pub searched_none : (v : Search) → Searched v v []
searched_none v = record { from = refl; to = refl; found = sym (or-false v.found) }

-- what was shown some ranges, and then others, was shown all of them
pub searched_both : (u v w : Search) (xs ys : List Words) → Searched u v xs → Searched v w ys → Searched u w (xs ++ ys)
searched_both u v w xs ys one two =
    let f : Words → Bool = meets u.from u.to in
    record {
      from = two.from ∙ one.from;
      to = two.to ∙ one.to;
      found =
          two.found
          ∙ ((λ i. one.found i || list_any (meets (one.from i) (one.to i)) ys)
          ∙ (or_assoc u.found (list_any f xs) (list_any f ys) ∙ ap (λ z. u.found || z) (sym (list_any-append f xs ys))));
    }
