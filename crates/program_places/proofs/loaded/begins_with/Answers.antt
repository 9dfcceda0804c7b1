use Rattle.std.proofs.Common.{◌≡◌, ◌∙◌, ℕ, ◌<◌, false, List, [], ◌∷◌, Option, None, length, drop, sym, arith}
use Rattle.std.proofs.lemmas.List.{at_drop_more}
use Rattle.program_places.specs.Loaded.{begins_with}
use Rattle.program_places.proofs.loaded.begins_with.Goals as goal

-- no words do not begin with those that are left of a hunk, if there are some
none-begins : (words : List ℕ) (hunk : List (Option ℕ)) (i : ℕ) → length words ≡ 0 → i < length hunk → begins_with words (drop i hunk) ≡ false
none-begins [] hunk i none lt = at_drop_more (begins_with []) hunk i None lt
none-begins (word ∷ words) hunk i none lt = absurd (omega arith)

pub returns-in_default : goal.returns-in_default
returns-in_default c =
    sym (none-begins c.loop-wanted.rest.now c.args.hunk.now c.loop-wanted.wanted-index c.in_default.ensures.cases c.loop-wanted-test.true) ∙ c.loop-wanted.invariant
