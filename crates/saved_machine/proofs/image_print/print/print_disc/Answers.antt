use Rattle.std.proofs.lemmas.Result.{err_from_is_err_and}
use Rattle.byte_streams.proofs.GatheredTexts.{Gathers-then, IsCut-more}
use Rattle.saved_machine.proofs.image_print.print.print_disc.Goals as goal

pub returns-in_err-print_files-clause-text : goal.returns-in_err-print_files-clause-text
returns-in_err-print_files-clause-text g c =
    let p = err_from_is_err_and c.from_residual.result c.from_residual.ensures.1 in
    rw p.1 (IsCut-more _ c.in_err-print_files.ensures.text)

pub returns-clause-text : goal.returns-clause-text
returns-clause-text g c = Gathers-then c.in_ok-print_files.ensures.text _ _ _ c.print_streams.result c.print_streams.ensures.text
