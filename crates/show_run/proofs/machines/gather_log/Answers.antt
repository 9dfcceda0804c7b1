use Rattle.std.proofs.lemmas.Result.{err_from_is_err_and}
use Rattle.byte_streams.proofs.GatheredTexts.{Gathers-then, IsCut-more}
use Rattle.show_run.specs.StepLog.StepLines.{log_text}
use Rattle.show_run.proofs.machines.gather_log.Goals as goal

pub returns-in_err-gather_boot_part-clause-text : goal.returns-in_err-gather_boot_part-clause-text
returns-in_err-gather_boot_part-clause-text g c =
    let p = err_from_is_err_and c.from_residual.result c.from_residual.ensures.1 in
    rw p.1 (IsCut-more (log_text c.args.count c.args.machine.now.state) c.in_err-gather_boot_part.ensures.text)

pub returns-clause-text : goal.returns-clause-text
returns-clause-text g c =
    let end = c.gather_steps in
    Gathers-then c.in_ok-gather_boot_part.ensures.text (g.K.Sink.holds end.new.out) end.new.pending (log_text c.args.count c.args.machine.now.state) end.result end.ensures.text
