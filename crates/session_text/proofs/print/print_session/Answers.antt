use Rattle.std.proofs.Common.{[]}
use Rattle.std.proofs.lemmas.Result.{err_from_is_err_and}
use Rattle.byte_streams.proofs.FailedPrint.{Prints-cut}
use Rattle.byte_streams.proofs.AppendedTexts.{Appends-nothing, Appends-then, Prints-then}
use Rattle.session_text.proofs.PrintedTexts.{canonical_fourth, canonical_parts, canonical_third}
use Rattle.session_text.proofs.print.print_session.Goals as goal

pub returns-in_err-print_head-clause-text : goal.returns-in_err-print_head-clause-text
returns-in_err-print_head-clause-text g c =
    let p = err_from_is_err_and c.from_residual.result c.from_residual.ensures.1 in
    rw (canonical_parts c.args.s.now) (Prints-cut _ _ _ [] _ _ _ p.0 p.1 (Appends-nothing _) c.in_err-print_head.ensures.text)

pub returns-in_err-print_machine-clause-text : goal.returns-in_err-print_machine-clause-text
returns-in_err-print_machine-clause-text g c =
    let p = err_from_is_err_and c.from_residual-in_err-print_machine.result c.from_residual-in_err-print_machine.ensures.1 in
    rw (canonical_parts c.args.s.now) (Prints-cut _ _ _ _ _ _ _ p.0 p.1 c.in_ok-print_head.ensures.text c.in_err-print_machine.ensures.text)

pub returns-in_err-print_lines-clause-text : goal.returns-in_err-print_lines-clause-text
returns-in_err-print_lines-clause-text g c =
    let p = err_from_is_err_and c.from_residual-in_err-print_lines.result c.from_residual-in_err-print_lines.ensures.1 in
    let before = Appends-then _ _ _ _ _ c.in_ok-print_head.ensures.text c.in_ok-print_machine.ensures.text in
    rw (canonical_third c.args.s.now, ← c.as_slice.ensures) (Prints-cut _ _ _ _ _ _ _ p.0 p.1 before c.in_err-print_lines.ensures.text)

pub returns-in_err-print_keys-clause-text : goal.returns-in_err-print_keys-clause-text
returns-in_err-print_keys-clause-text g c =
    let p = err_from_is_err_and c.from_residual-in_err-print_keys.result c.from_residual-in_err-print_keys.ensures.1 in
    let before = Appends-then _ _ _ _ _ (Appends-then _ _ _ _ _ c.in_ok-print_head.ensures.text c.in_ok-print_machine.ensures.text) c.in_ok-print_lines.ensures.text in
    rw (canonical_fourth c.args.s.now, ← c.as_slice.ensures, ← c.as_slice-2.ensures) (Prints-cut _ _ _ _ _ _ _ p.0 p.1 before c.in_err-print_keys.ensures.text)

pub returns-clause-text : goal.returns-clause-text
returns-clause-text g c =
    rw (canonical_parts c.args.s.now, ← c.as_slice.ensures, ← c.as_slice-2.ensures)
    (Prints-then _ _ _ _ _ _ c.in_ok-print_head.ensures.text (Prints-then _ _ _ _ _ _ c.in_ok-print_machine.ensures.text
    (Prints-then _ _ _ _ _ _ c.in_ok-print_lines.ensures.text (Prints-then _ _ _ _ _ _ c.in_ok-print_keys.ensures.text c.print_go.ensures.text))))
