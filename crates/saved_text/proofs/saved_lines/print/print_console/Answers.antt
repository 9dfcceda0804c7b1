use Rattle.std.proofs.Common.{List, ℕ, subst}
use Rattle.std.proofs.lemmas.Result.{err_from_is_err_and}
use Rattle.byte_streams.specs.Pending.{Gathers, IsCut}
use Rattle.byte_streams.proofs.GatheredTexts.{Gathers-then, IsCut-more}
use Rattle.saved_text.proofs.SavedLines.PrintParts.{hex_line, console_parts}
use Rattle.saved_text.proofs.saved_lines.print.print_console.Goals as goal

pub returns-in_err-gather_pieces-clause-text : goal.returns-in_err-gather_pieces-clause-text
returns-in_err-gather_pieces-clause-text g c =
    let t = g.X.TextBytes.text c.args.bytes.now in
    let p = err_from_is_err_and c.from_residual.result c.from_residual.ensures.1 in
    rw p.1 (subst (IsCut (g.K.Sink.holds c.args.out.now) (g.K.Sink.holds c.gather_pieces.new.out) c.args.pending.now) (console_parts c.args.d t) (IsCut-more (hex_line t) c.in_err-gather_pieces.ensures.text))

pub returns-clause-text : goal.returns-clause-text
returns-clause-text g c =
    let t = g.X.TextBytes.text c.args.bytes.now in
    let hex = rw c.len.ensures at c.print_bytes.ensures.text in
    subst (λ (u : List ℕ). Gathers (g.K.Sink.holds c.args.out.now) (g.K.Sink.holds c.print_bytes.new.out) c.args.pending.now c.print_bytes.new.pending u c.print_bytes.result) (console_parts c.args.d t)
    (Gathers-then c.in_ok-gather_pieces.ensures.text _ _ _ c.print_bytes.result hex)
