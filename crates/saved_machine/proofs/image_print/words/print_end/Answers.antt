use Rattle.std.proofs.Common.{List, ℕ, sym, subst}
use Rattle.std.proofs.lemmas.Result.{err_from_is_err_and}
use Rattle.saved_text.specs.SavedLines.Statements.{Go}
use Rattle.byte_streams.specs.Pending.{Gathers}
use Rattle.byte_streams.proofs.GatheredTexts.{Gathers-then, IsCut-more}
use Rattle.saved_machine.proofs.ImagePrint.StatementTexts.{one_statement}
use Rattle.saved_machine.proofs.image_print.words.print_end.Goals as goal

pub returns-in_err-print_words-clause-text : goal.returns-in_err-print_words-clause-text
returns-in_err-print_words-clause-text g c =
    let p = err_from_is_err_and c.from_residual.result c.from_residual.ensures.1 in
    rw p.1 (IsCut-more _ (rw c.all_words.ensures at c.in_err-print_words.ensures.text))

pub returns-clause-text : goal.returns-clause-text
returns-clause-text g c =
    let first = rw c.all_words.ensures at c.in_ok-print_words.ensures.text in
    let G = Gathers (g.K.Sink.holds c.print_words.new.out) (g.K.Sink.holds c.print_go.new.out) c.print_words.new.pending c.print_go.new.pending in
    let last = subst (λ (u : List ℕ). G u c.print_go.result) (sym (one_statement (Go c.args.go))) c.print_go.ensures.text in
    Gathers-then first _ _ _ c.print_go.result last
