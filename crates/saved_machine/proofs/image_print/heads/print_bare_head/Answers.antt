use Rattle.std.proofs.Common.{List, ℕ, subst}
use Rattle.std.proofs.lemmas.Result.{err_from_is_err_and}
use Rattle.byte_streams.specs.Pending.{Gathers, IsCut}
use Rattle.byte_streams.proofs.GatheredTexts.{Gathers-then, IsCut-more}
use Rattle.saved_machine.proofs.ImagePrint.HeadTexts.{bare_head}
use Rattle.saved_machine.proofs.image_print.heads.print_bare_head.Goals as goal

pub returns-in_err-gather_pieces-clause-text : goal.returns-in_err-gather_pieces-clause-text
returns-in_err-gather_pieces-clause-text g c =
    let text = rw (c.from.ensures, c.from-2.ensures) at c.in_err-gather_pieces.ensures.text in
    let p = err_from_is_err_and c.from_residual.result c.from_residual.ensures.1 in
    rw p.1 (subst (IsCut (g.K.Sink.holds c.args.out.now) (g.K.Sink.holds c.gather_pieces.new.out) c.args.pending.now) (bare_head c.args.version c.args.words c.args.step c.args.regs.now) (IsCut-more _ text))

pub returns-clause-text : goal.returns-clause-text
returns-clause-text g c =
    let text = rw (c.from.ensures, c.from-2.ensures) at c.in_ok-gather_pieces.ensures.text in
    subst (λ (u : List ℕ). Gathers (g.K.Sink.holds c.args.out.now) (g.K.Sink.holds c.print_regs.new.out) c.args.pending.now c.print_regs.new.pending u c.print_regs.result) (bare_head c.args.version c.args.words c.args.step c.args.regs.now)
    (Gathers-then text _ _ _ c.print_regs.result c.print_regs.ensures.text)
