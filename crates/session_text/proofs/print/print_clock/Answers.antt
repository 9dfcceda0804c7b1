use Rattle.std.proofs.Common.{ℕ, List, [], sym, subst}
use Rattle.std.proofs.lemmas.Result.{err_from_is_err_and}
use Rattle.byte_streams.proofs.FailedPrint.{Prints-cut}
use Rattle.byte_streams.proofs.AppendedTexts.{Appends-nothing, Prints-then}
use Rattle.byte_streams.specs.Write.{Prints}
use Rattle.session_text.proofs.PrintedTexts.{clock_pieces}
use Rattle.session_text.proofs.print.print_clock.Goals as goal

pub returns-in_err-write_pieces-clause-text : goal.returns-in_err-write_pieces-clause-text
returns-in_err-write_pieces-clause-text g c =
    let p = err_from_is_err_and c.from_residual.result c.from_residual.ensures.1 in
    let P = λ (t : List ℕ). Prints (g.K.Sink.holds c.args.out.now) (g.K.Sink.holds c.write_pieces.new.out) t c.from_residual.result in
    rw (← c.from.ensures) (subst P (sym (clock_pieces c.from.result c.args.resident c.args.debug)) (Prints-cut _ _ _ [] _ _ _ p.0 p.1 (Appends-nothing _) c.in_err-write_pieces.ensures.text))

pub returns-in_err-print_option-clause-text : goal.returns-in_err-print_option-clause-text
returns-in_err-print_option-clause-text g c =
    let p = err_from_is_err_and c.from_residual-in_err-print_option.result c.from_residual-in_err-print_option.ensures.1 in
    let P = λ (t : List ℕ). Prints (g.K.Sink.holds c.args.out.now) (g.K.Sink.holds c.print_option.new.out) t c.from_residual-in_err-print_option.result in
    rw (← c.from.ensures) (subst P (sym (clock_pieces c.from.result c.args.resident c.args.debug)) (Prints-cut _ _ _ _ _ _ _ p.0 p.1 c.in_ok-write_pieces.ensures.text c.in_err-print_option.ensures.text))

pub returns-clause-text : goal.returns-clause-text
returns-clause-text g c =
    let P = λ (t : List ℕ). Prints (g.K.Sink.holds c.args.out.now) (g.K.Sink.holds c.print_option-2.new.out) t c.print_option-2.result in
    rw (← c.from.ensures) (subst P (sym (clock_pieces c.from.result c.args.resident c.args.debug)) (Prints-then _ _ _ _ _ _ c.in_ok-write_pieces.ensures.text (Prints-then _ _ _ _ _ _ c.in_ok-print_option.ensures.text c.print_option-2.ensures.text)))
