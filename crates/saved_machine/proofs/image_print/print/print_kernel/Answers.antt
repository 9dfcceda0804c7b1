use Rattle.std.proofs.Common.{List, ℕ, subst}
use Rattle.std.proofs.lemmas.Result.{err_from_is_err_and}
use Rattle.byte_streams.specs.Pending.{Gathers, IsCut}
use Rattle.byte_streams.proofs.GatheredTexts.{Gathers-then, IsCut-more, IsCut-then}
use Rattle.saved_machine.proofs.ImagePrint.WholeText.{whole-same}
use Rattle.saved_machine.proofs.image_print.print.print_kernel.Goals as goal

pub returns-in_err-print_front-clause-text : goal.returns-in_err-print_front-clause-text
returns-in_err-print_front-clause-text g c = λ k represents valid.
    let p = err_from_is_err_and c.from_residual.result c.from_residual.ensures.1 in
    rw p.1 (subst (IsCut (g.K.Sink.holds c.args.out.now) (g.K.Sink.holds c.print_front.new.out) c.args.pending.now) (whole-same c.args.parts.now k represents c.args.go valid)
    (IsCut-more _ (c.in_err-print_front.ensures.text k represents valid)))

pub returns-in_err-print_entries-clause-text : goal.returns-in_err-print_entries-clause-text
returns-in_err-print_entries-clause-text g c = λ k represents valid.
    let p = err_from_is_err_and c.from_residual-in_err-print_entries.result c.from_residual-in_err-print_entries.ensures.1 in
    rw p.1 (subst (IsCut (g.K.Sink.holds c.args.out.now) (g.K.Sink.holds c.print_entries.new.out) c.args.pending.now) (whole-same c.args.parts.now k represents c.args.go valid)
    (IsCut-then (c.in_ok-print_front.ensures.text k represents valid) (IsCut-more _ (c.in_err-print_entries.ensures.text k represents valid))))

pub returns-clause-text : goal.returns-clause-text
returns-clause-text g c = λ k represents valid.
    let G = λ (u : List ℕ). Gathers (g.K.Sink.holds c.args.out.now) (g.K.Sink.holds c.print_end.new.out) c.args.pending.now c.print_end.new.pending u c.print_end.result in
    subst G (whole-same c.args.parts.now k represents c.args.go valid)
    (Gathers-then (c.in_ok-print_front.ensures.text k represents valid) _ _ _ c.print_end.result
    (Gathers-then (c.in_ok-print_entries.ensures.text k represents valid) _ _ _ c.print_end.result c.print_end.ensures.text))
