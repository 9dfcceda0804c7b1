-- The names that the code keeps are those of the rows.
use lib.ListN.{get_or-map}
use Rattle.std.proofs.Common.{◌≡◌, ◌∙◌, sym, ap, zero-add, ℕ, List, ◌<◌, Option, None, Bor, map, get_or, slice_index_or}
use Rattle.std.proofs.lemmas.List.FromFn.{get_or-map-range_with_len}
use Rattle.std.specs.List.{range_with_len}
use Rattle.std.specs.Option.{option_copied}
use Rattle.instruction_set.specs.InstructionTable.Names.{name_at}

-- the name at a place of a list of names, where the list has those of all rows
pub named_row : (names : List (Option (Bor (List ℕ)))) (byte : ℕ) → map option_copied names ≡ map name_at (range_with_len 0 256) → byte < 256 → option_copied (slice_index_or names byte None) ≡ name_at byte
named_row names byte all h =
    sym (get_or-map option_copied names byte None) ∙
    ap (λ (l : List (Option (List ℕ))). get_or l byte None) all ∙
    get_or-map-range_with_len name_at 0 256 byte byte None h (zero-add byte)
