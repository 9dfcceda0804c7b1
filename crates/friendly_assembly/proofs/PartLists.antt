-- Pieces and parts, one after another.
use Rattle.std.proofs.Common.{◌≡◌, ℕ, suc, ◌+◌, ◌<◌, ◌==◌, Bool, true, false, cond, List, [], ◌∷◌, ◌++◌, length, take, drop, refl, ap, arith}
use Rattle.std.specs.List.{onto_first}
use Rattle.friendly_assembly.specs.declared.parts.Part.{Part}
use Rattle.friendly_assembly.specs.declared.readings.Reading.{Reading}
use Rattle.friendly_assembly.specs.declared.readings.Reading.TheVariants.{Outside}
use Rattle.friendly_assembly.specs.declared.readings.Stop.TheVariants.{AtBlank}
use Rattle.friendly_assembly.specs.Parts.{pieces, placed}
use Rattle.friendly_assembly.specs.Readings.{bytes_before, ends_at, reading_after}

placed_by : (b : Bool) (p : Part) (others : List Part) → cond b others (p ∷ others) ≡ cond b [] (p ∷ []) ++ others
placed_by true p others = refl
placed_by false p others = refl

-- the first piece as a part, if it is one, and then the others
pub placed_more : (column : ℕ) (piece : List ℕ) (others : List (List ℕ))
    → placed column (piece ∷ others) ≡ placed column (piece ∷ []) ++ placed (column + (length piece + 1)) others
placed_more column piece others =
    placed_by (length piece == 0) (record { column = column; text = piece }) (placed (column + (length piece + 1)) others)

piece_by : (b : Bool) (c : ℕ) (cs : List ℕ) (m : ℕ) (later : List (List ℕ)) → onto_first c later ≡ (c ∷ take m cs) ∷ pieces Outside (drop 1 (drop m cs))
    → cond b ([] ∷ pieces Outside cs) (onto_first c later)
    ≡ take (cond b 0 (suc m)) (c ∷ cs) ∷ pieces Outside (drop 1 (drop (cond b 0 (suc m)) (c ∷ cs)))
piece_by true c cs m later h = refl
piece_by false c cs m later h = h

split_first : (r : Reading) (c : ℕ) (cs : List ℕ) → pieces r (c ∷ cs)
    ≡ take (bytes_before AtBlank r (c ∷ cs)) (c ∷ cs) ∷ pieces Outside (drop 1 (drop (bytes_before AtBlank r (c ∷ cs)) (c ∷ cs)))
split_first r c [] = piece_by (ends_at AtBlank r c) c [] 0 [] refl
split_first r c (d ∷ ds) =
    let after = reading_after r c in
    piece_by (ends_at AtBlank r c) c (d ∷ ds) (bytes_before AtBlank after (d ∷ ds)) (pieces after (d ∷ ds)) (ap (onto_first c) (split_first after d ds))

-- the first piece of a text, and the pieces after the blank that ends it
pub first_piece : (text : List ℕ) → 0 < length text
    → pieces Outside text ≡ take (bytes_before AtBlank Outside text) text ∷ pieces Outside (drop 1 (drop (bytes_before AtBlank Outside text) text))
first_piece [] some = absurd (omega arith)
first_piece (c ∷ cs) some = split_first Outside c cs
