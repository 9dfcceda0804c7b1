use Rattle.std.proofs.Common.{List, ℕ, append-nil, sym, subst}
use Rattle.std.proofs.lemmas.Result.{err_from_is_err_and}
use Rattle.byte_streams.specs.Pending.{Gathers}
use Rattle.byte_streams.proofs.GatheredTexts.{Gathers-then, IsCut-more, IsCut-then}
use Rattle.saved_machine.proofs.image_print.residents.print_residents.Goals as goal

pub returns-in_err-print_ring-clause-text : goal.returns-in_err-print_ring-clause-text
returns-in_err-print_ring-clause-text g c =
    let ring = rw (c.new.ensures, c.as_slice.ensures.value, c.bytes-ahead.ensures) at c.in_err-print_ring.ensures.text in
    let p = err_from_is_err_and c.from_residual.result c.from_residual.ensures.1 in
    rw p.1 (IsCut-more _ ring)

pub returns-in_err-print_console_line-clause-text : goal.returns-in_err-print_console_line-clause-text
returns-in_err-print_console_line-clause-text g c =
    let ring = rw (c.new.ensures, c.as_slice.ensures.value, c.bytes-ahead.ensures) at c.in_ok-print_ring.ensures.text in
    let p = err_from_is_err_and c.from_residual-in_err-print_console_line.result c.from_residual-in_err-print_console_line.ensures.1 in
    rw p.1 (IsCut-then ring (IsCut-more _ c.in_err-print_console_line.ensures.text))

pub returns-clause-text : goal.returns-clause-text
returns-clause-text g c =
    let ring = rw (c.new.ensures, c.as_slice.ensures.value, c.bytes-ahead.ensures) at c.in_ok-print_ring.ensures.text in
    let G = λ (u : List ℕ). Gathers (g.K.Sink.holds c.print_console_line.new.out) (g.K.Sink.holds c.print_shell_line.new.out) c.print_console_line.new.pending c.print_shell_line.new.pending u c.print_shell_line.result in
    let shell = subst G (sym (append-nil _)) c.print_shell_line.ensures.text in
    Gathers-then ring _ _ _ c.print_shell_line.result (Gathers-then c.in_ok-print_console_line.ensures.text _ _ _ c.print_shell_line.result shell)
