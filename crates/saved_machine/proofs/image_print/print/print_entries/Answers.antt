use Rattle.std.proofs.Common.{List, ℕ, subst}
use Rattle.std.proofs.lemmas.Result.{err_from_is_err_and}
use Rattle.byte_streams.specs.Pending.{Gathers, IsCut}
use Rattle.byte_streams.proofs.GatheredTexts.{Gathers-then, IsCut-more, IsCut-then}
use Rattle.saved_machine.proofs.ImagePrint.WholeText.{entries-same}
use Rattle.saved_machine.proofs.image_print.print.print_entries.Goals as goal

pub returns-in_err-print_disc-clause-text : goal.returns-in_err-print_disc-clause-text
returns-in_err-print_disc-clause-text g c = λ k represents valid.
    let p = err_from_is_err_and c.from_residual.result c.from_residual.ensures.1 in
    rw p.1 (subst (IsCut (g.K.Sink.holds c.args.out.now) (g.K.Sink.holds c.print_disc.new.out) c.args.pending.now) (entries-same c.args.parts.now k represents) (IsCut-more _ c.in_err-print_disc.ensures.text))

pub returns-in_err-print_pipes-clause-text : goal.returns-in_err-print_pipes-clause-text
returns-in_err-print_pipes-clause-text g c = λ k represents valid.
    let p = err_from_is_err_and c.from_residual-in_err-print_pipes.result c.from_residual-in_err-print_pipes.ensures.1 in
    rw p.1 (subst (IsCut (g.K.Sink.holds c.args.out.now) (g.K.Sink.holds c.print_pipes.new.out) c.args.pending.now) (entries-same c.args.parts.now k represents)
    (IsCut-then c.in_ok-print_disc.ensures.text (IsCut-more _ c.in_err-print_pipes.ensures.text)))

pub returns-clause-text : goal.returns-clause-text
returns-clause-text g c = λ k represents valid.
    let G = λ (u : List ℕ). Gathers (g.K.Sink.holds c.args.out.now) (g.K.Sink.holds c.print_coming_keys.new.out) c.args.pending.now c.print_coming_keys.new.pending u c.print_coming_keys.result in
    subst G (entries-same c.args.parts.now k represents)
    (Gathers-then c.in_ok-print_disc.ensures.text _ _ _ c.print_coming_keys.result (Gathers-then c.in_ok-print_pipes.ensures.text _ _ _ c.print_coming_keys.result c.print_coming_keys.ensures.text))
