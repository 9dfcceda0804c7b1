use Rattle.std.proofs.Common.{◌∙◌, List, ℕ, sym, subst}
use Rattle.std.proofs.lemmas.Result.{err_from_is_err_and}
use Rattle.byte_streams.specs.Pending.{Gathers, IsCut}
use Rattle.byte_streams.proofs.GatheredTexts.{Gathers-then, IsCut-more}
use Rattle.saved_machine.proofs.ImagePrint.FileTexts.{named-parts}
use Rattle.saved_machine.proofs.image_print.files.print_named_file.Goals as goal

pub returns-in_err-print_file-clause-text : goal.returns-in_err-print_file-clause-text
returns-in_err-print_file-clause-text g c =
    let parts = named-parts c.args.disc.now c.args.name.now c.in-Some.bytes (sym c.in-Some.is ∙ c.file.ensures) in
    let p = err_from_is_err_and c.from_residual.result c.from_residual.ensures.1 in
    rw p.1 (subst (IsCut (g.K.Sink.holds c.args.out.now) (g.K.Sink.holds c.print_file.new.out) c.args.pending.now) (sym parts) (IsCut-more _ (rw c.bytes.ensures.value at c.in_err-print_file.ensures.text)))

pub returns-clause-text : goal.returns-clause-text
returns-clause-text g c =
    let parts = named-parts c.args.disc.now c.args.name.now c.in-Some.bytes (sym c.in-Some.is ∙ c.file.ensures) in
    subst (λ (u : List ℕ). Gathers (g.K.Sink.holds c.args.out.now) (g.K.Sink.holds c.print_byte_lines.new.out) c.args.pending.now c.print_byte_lines.new.pending u c.print_byte_lines.result) (sym parts)
    (Gathers-then (rw c.bytes.ensures.value at c.in_ok-print_file.ensures.text) _ _ _ c.print_byte_lines.result c.print_byte_lines.ensures.text)
