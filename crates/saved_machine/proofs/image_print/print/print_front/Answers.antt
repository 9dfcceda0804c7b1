use Rattle.std.proofs.Common.{List, ℕ, subst}
use Rattle.std.proofs.lemmas.Result.{err_from_is_err_and}
use Rattle.byte_streams.specs.Pending.{Gathers, IsCut}
use Rattle.byte_streams.proofs.GatheredTexts.{Gathers-then, IsCut-more}
use Rattle.saved_machine.proofs.ImagePrint.WholeText.{front-same}
use Rattle.saved_machine.proofs.image_print.print.print_front.Goals as goal

pub returns-in_err-print_kernel_head-clause-text : goal.returns-in_err-print_kernel_head-clause-text
returns-in_err-print_kernel_head-clause-text g c = λ k represents valid.
    let text = rw (c.root-version.ensures, c.size.ensures) at c.in_err-print_kernel_head.ensures.text in
    let p = err_from_is_err_and c.from_residual.result c.from_residual.ensures.1 in
    rw p.1 (subst (IsCut (g.K.Sink.holds c.args.out.now) (g.K.Sink.holds c.print_kernel_head.new.out) c.args.pending.now) (front-same c.args.parts.now k represents) (IsCut-more _ text))

pub returns-clause-text : goal.returns-clause-text
returns-clause-text g c = λ k represents valid.
    let text = rw (c.root-version.ensures, c.size.ensures) at c.in_ok-print_kernel_head.ensures.text in
    subst (λ (u : List ℕ). Gathers (g.K.Sink.holds c.args.out.now) (g.K.Sink.holds c.print_residents.new.out) c.args.pending.now c.print_residents.new.pending u c.print_residents.result) (front-same c.args.parts.now k represents)
    (Gathers-then text _ _ _ c.print_residents.result c.print_residents.ensures.text)
