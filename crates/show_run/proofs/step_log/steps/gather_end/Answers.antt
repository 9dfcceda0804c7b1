use Rattle.std.proofs.lemmas.Result.{err_from_is_err_and}
use Rattle.byte_streams.proofs.GatheredTexts.{Gathers-then, IsCut-more}
use Rattle.show_run.specs.StepLog.Faults.{fault_lines, record_of}
use Rattle.show_run.proofs.step_log.steps.gather_end.Goals as goal

pub returns-in_err-gather_answer-clause-text : goal.returns-in_err-gather_answer-clause-text
returns-in_err-gather_answer-clause-text g c =
    let p = err_from_is_err_and c.from_residual.result c.from_residual.ensures.1 in
    rw p.1 (IsCut-more (fault_lines c.args.m c.args.before.fault (record_of c.args.m.task c.args.machine.now.state)) c.in_err-gather_answer.ensures.text)

pub returns-clause-text : goal.returns-clause-text
returns-clause-text g c =
    let end = c.gather_fault in
    Gathers-then c.in_ok-gather_answer.ensures.text (g.K.Sink.holds end.new.out) end.new.pending (fault_lines c.args.m c.args.before.fault (record_of c.args.m.task c.args.machine.now.state)) end.result end.ensures.text
