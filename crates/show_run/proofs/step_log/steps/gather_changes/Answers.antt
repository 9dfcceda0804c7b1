use Rattle.std.specs.Prelude.{◌++◌, length}
use Rattle.std.proofs.lemmas.Result.{err_from_is_err_and}
use Rattle.byte_streams.proofs.GatheredTexts.{Gathers-then, IsCut-more, IsCut-then}
use Rattle.tripos_machine.specs.State.{keys_to_come, stop_of}
use Rattle.show_run.specs.StepLog.StepLines.{key_lines, stop_lines}
use Rattle.show_run.proofs.step_log.steps.gather_changes.Goals as goal

pub returns-in_err-gather_tick-clause-text : goal.returns-in_err-gather_tick-clause-text
returns-in_err-gather_tick-clause-text g c =
    let p = err_from_is_err_and c.from_residual.result c.from_residual.ensures.1 in
    rw p.1 (IsCut-more (key_lines c.args.m c.args.before.keys.count c.args.before.keys.first (length (keys_to_come c.args.machine.now.state)) ++ stop_lines c.args.m (stop_of c.args.machine.now.state)) c.in_err-gather_tick.ensures.text)

pub returns-in_err-gather_key-clause-text : goal.returns-in_err-gather_key-clause-text
returns-in_err-gather_key-clause-text g c =
    let p = err_from_is_err_and c.from_residual-in_err-gather_key.result c.from_residual-in_err-gather_key.ensures.1 in
    rw p.1 (IsCut-then c.in_ok-gather_tick.ensures.text (IsCut-more (stop_lines c.args.m (stop_of c.args.machine.now.state)) c.in_err-gather_key.ensures.text))

pub returns-clause-text : goal.returns-clause-text
returns-clause-text g c =
    let holds = g.K.Sink.holds in
    let end = c.gather_stop in
    Gathers-then c.in_ok-gather_tick.ensures.text (holds end.new.out) end.new.pending (key_lines c.args.m c.args.before.keys.count c.args.before.keys.first (length (keys_to_come c.args.machine.now.state)) ++ stop_lines c.args.m (stop_of c.args.machine.now.state)) end.result
    (Gathers-then c.in_ok-gather_key.ensures.text (holds end.new.out) end.new.pending (stop_lines c.args.m (stop_of c.args.machine.now.state)) end.result end.ensures.text)
