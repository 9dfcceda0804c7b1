use Rattle.std.proofs.Common.{[], suc, drop, arith}
use Rattle.std.specs.List.{flat_map}
use Rattle.std.proofs.lemmas.Result.{err_from_is_err_and}
use Rattle.byte_streams.specs.Pieces.{text_of}
use Rattle.byte_streams.specs.declared.pieces.Piece.{Piece}
use Rattle.byte_streams.specs.declared.pieces.Piece.TheVariants.{Text}
use Rattle.byte_streams.proofs.AppendedTexts.{flat_map-at, flat_map-more}
use Rattle.byte_streams.proofs.GatheredTexts.{IsCut-more, IsCut-then, IsGathered-then}
use Rattle.byte_streams.proofs.pieces.gather_pieces.Goals as goal

abbrev no_piece : Piece
no_piece = Text (record { ref_ptr = (0, 0); now = [] })

pub returns-in_err-gather_piece-clause-text : goal.returns-in_err-gather_piece-clause-text
returns-in_err-gather_piece-clause-text g c =
    let i = c.loop-piece.piece-index in
    let pieces = c.args.pieces.now in
    let p = err_from_is_err_and c.from_residual.result c.from_residual.ensures.1 in
    rw p.1 (rw (flat_map-at text_of pieces i no_piece c.loop-piece-test.true)
    (IsCut-then c.loop-piece.invariant.text (IsCut-more (flat_map text_of (drop (suc i) pieces)) c.in_err-gather_piece.ensures.text)))

pub loop-piece-preserved : goal.loop-piece-preserved
loop-piece-preserved g c = record {
  text = rw (flat_map-more text_of c.args.pieces.now c.loop-piece.piece-index no_piece c.loop-piece-test.true)
      (IsGathered-then c.loop-piece.invariant.text c.in_ok-gather_piece.ensures.text);
  later = omega (arith, c.in_ok-gather_piece.ensures.cause);
}
