use Rattle.std.proofs.Common.{◌≡◌, ◌++◌, drop}
use Rattle.std.specs.List.{flat_map}
use Rattle.run_pictures.specs.Elements.{piece_text}
use Rattle.run_pictures.proofs.elements.push_pieces.Given as goal

abbrev pub invariant-loop-piece : goal.invariant-loop-piece
invariant-loop-piece l = l.svg.items ++ flat_map piece_text (drop l.piece-index l.pieces) ≡ l.fn.svg.items ++ flat_map piece_text l.pieces
