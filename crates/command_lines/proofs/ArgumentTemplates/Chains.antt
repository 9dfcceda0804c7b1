-- Entries as a template's text is split at commas, and where a search ends.
use Rattle.std.proofs.Common.{◌≡◌, ℕ, ◌<◌, ◌≤◌, ◌==◌, Bool, not, List, [], ◌∷◌, length, refl, arith}
use Rattle.std.specs.Option.{unwrap_or, IfSome}
use Rattle.std.specs.List.{position, position_or_len, slice_split}
use Rattle.std.proofs.lemmas.Bool.Decides.{nat_tests}
use Rattle.std.proofs.lemmas.Slice.Eq.{bytes_eq-Decides}
use Rattle.std.proofs.lemmas.List.Sums.{prefix_len-le-length}
use Rattle.command_lines.specs.ArgumentTemplates.Template.{entries}

-- a template with bytes is split at its commas
pub entries-split : (template : List ℕ) → 1 ≤ length template → entries template ≡ slice_split (λ b. b == 44) template
entries-split [] h = absurd (omega arith)
entries-split (c ∷ cs) h = refl

-- the place that a search found, or else the length
pub position-or_length : {X : Type 0} (p : X → Bool) (xs : List X) → unwrap_or (position p xs) (length xs) ≡ position_or_len p xs
position-or_length p xs = let le = prefix_len-le-length (λ x. not (p x)) xs in grind (arith, nat_tests)

-- it is inside
pub position-inside : {X : Type 0} (p : X → Bool) (xs : List X) → IfSome (position p xs) (λ k. k < length xs)
position-inside p xs = grind (arith, nat_tests)

pub ruleset places = (position-or_length, prefix_len-le-length)

pub ruleset sameness = bytes_eq-Decides
