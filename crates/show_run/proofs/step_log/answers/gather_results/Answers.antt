use Rattle.std.proofs.lemmas.Result.{err_from_is_err_and}
use Rattle.byte_streams.proofs.GatheredTexts.{Gathers-then, IsCut-more}
use Rattle.show_run.specs.StepLog.Answers.{refused_lines}
use Rattle.show_run.proofs.step_log.answers.gather_results.Goals as goal

pub returns-in_err-gather_values-clause-text : goal.returns-in_err-gather_values-clause-text
returns-in_err-gather_values-clause-text g c =
    let p = err_from_is_err_and c.from_residual.result c.from_residual.ensures.1 in
    rw p.1 (IsCut-more (refused_lines c.args.m c.args.refuses c.args.first c.args.second) c.in_err-gather_values.ensures.text)

pub returns-clause-text : goal.returns-clause-text
returns-clause-text g c =
    let end = c.gather_refused in
    Gathers-then c.in_ok-gather_values.ensures.text (g.K.Sink.holds end.new.out) end.new.pending (refused_lines c.args.m c.args.refuses c.args.first c.args.second) end.result end.ensures.text
