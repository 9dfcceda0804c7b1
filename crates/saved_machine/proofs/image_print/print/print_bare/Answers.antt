use Rattle.std.proofs.Common.{List, ℕ, subst}
use Rattle.std.proofs.lemmas.Result.{err_from_is_err_and}
use Rattle.byte_streams.specs.Pending.{Gathers, IsCut}
use Rattle.byte_streams.proofs.GatheredTexts.{Gathers-then, IsCut-more}
use Rattle.saved_machine.proofs.ImagePrint.WholeText.{bare-text}
use Rattle.saved_machine.proofs.image_print.print.print_bare.Goals as goal

pub returns-in_err-print_bare_head-clause-text : goal.returns-in_err-print_bare_head-clause-text
returns-in_err-print_bare_head-clause-text g c =
    let text = rw (c.size.ensures, c.store-store.ensures, c.steps-step.ensures, c.regs-regs.ensures) at c.in_err-print_bare_head.ensures.text in
    let p = err_from_is_err_and c.from_residual.result c.from_residual.ensures.1 in
    rw p.1 (subst (IsCut (g.K.Sink.holds c.args.out.now) (g.K.Sink.holds c.print_bare_head.new.out) c.args.pending.now) (bare-text c.args.version c.args.machine.now.state c.args.go c.requires) (IsCut-more _ text))

pub returns-clause-text : goal.returns-clause-text
returns-clause-text g c =
    let text = rw (c.size.ensures, c.store-store.ensures, c.steps-step.ensures, c.regs-regs.ensures) at c.in_ok-print_bare_head.ensures.text in
    let last = rw c.store-store.ensures at c.print_end.ensures.text in
    subst (λ (u : List ℕ). Gathers (g.K.Sink.holds c.args.out.now) (g.K.Sink.holds c.print_end.new.out) c.args.pending.now c.print_end.new.pending u c.print_end.result) (bare-text c.args.version c.args.machine.now.state c.args.go c.requires)
    (Gathers-then text _ _ _ c.print_end.result last)
