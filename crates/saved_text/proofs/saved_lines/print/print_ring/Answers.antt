use Rattle.std.proofs.Common.{ℕ, List, ◌++◌, subst}
use Rattle.std.specs.Prelude.{codes}
use Rattle.std.proofs.lemmas.Result.{err_from_is_err_and}
use Rattle.byte_streams.specs.Pending.{Gathers}
use Rattle.byte_streams.proofs.GatheredTexts.{Gathers-then, IsCut-more}
use Rattle.saved_text.proofs.SavedLines.PrintParts.{hex_line_is}
use Rattle.saved_text.proofs.saved_lines.print.print_ring.Goals as goal

pub returns-in_err-gather-clause-text : goal.returns-in_err-gather-clause-text
returns-in_err-gather-clause-text g c =
    let p = err_from_is_err_and c.from_residual.result c.from_residual.ensures.1 in
    rw p.1 (IsCut-more _ c.in_err-gather.ensures.text)

pub returns-clause-text : goal.returns-clause-text
returns-clause-text g c =
    let hex = rw c.len.ensures at c.print_bytes.ensures.text in
    subst (λ (t : List ℕ). Gathers (g.K.Sink.holds c.args.out.now) (g.K.Sink.holds c.print_bytes.new.out) c.args.pending.now c.print_bytes.new.pending (codes "RING " ++ t) c.print_bytes.result) (hex_line_is (g.X.TextBytes.text c.args.bytes.now))
    (Gathers-then c.in_ok-gather.ensures.text _ _ _ c.print_bytes.result hex)
