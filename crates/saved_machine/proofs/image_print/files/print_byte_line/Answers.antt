use Rattle.std.proofs.Common.{List, ℕ, ◌∷◌, ◌++◌, [], subst}
use Rattle.saved_text.specs.SavedLines.Canonical.{statement_text}
use Rattle.saved_text.specs.SavedLines.Statements.{Bytes}
use Rattle.byte_streams.specs.Pending.{Gathers}
use Rattle.saved_machine.proofs.ImagePrint.StatementTexts.{line-range}
use Rattle.saved_machine.proofs.image_print.files.print_byte_line.Goals as goal

pub returns-clause-text : goal.returns-clause-text
returns-clause-text g c =
    let t = g.X.TextBytes.text c.args.bytes.now in
    let text = rw (c.min.ensures, c.len-len.ensures) at c.print_bytes.ensures.text in
    subst (λ (line : List ℕ). Gathers (g.K.Sink.holds c.args.out.now) (g.K.Sink.holds c.print_bytes.new.out) c.args.pending.now c.print_bytes.new.pending (statement_text (Bytes line) ++ 10 ∷ []) c.print_bytes.result) (line-range t c.args.i) text
