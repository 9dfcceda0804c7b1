use Rattle.std.specs.Prelude.{codes}
use Rattle.std.proofs.lemmas.Result.{err_from_is_err_and}
use Rattle.byte_streams.proofs.GatheredTexts.{Gathers-then, IsCut-more}
use Rattle.show_run.specs.StepLog.Moments.{line}
use Rattle.show_run.proofs.step_log.moments.gather_line.Goals as goal

pub returns-in_err-gather_start-clause-text : goal.returns-in_err-gather_start-clause-text
unfolding line
returns-in_err-gather_start-clause-text g c =
    let p = err_from_is_err_and c.from_residual.result c.from_residual.ensures.1 in
    rw p.1 (IsCut-more (codes "\n") c.in_err-gather_start.ensures.text)

pub returns-clause-text : goal.returns-clause-text
unfolding line
returns-clause-text g c =
    let end = c.gather in
    Gathers-then c.in_ok-gather_start.ensures.text (g.K.Sink.holds end.new.out) end.new.pending (codes "\n") end.result end.ensures.text
