use Rattle.std.proofs.Common.{◌++◌, subst}
use Rattle.std.proofs.lemmas.Result.{err_from_is_err_and}
use Rattle.byte_streams.specs.Pending.{IsCut, IsGathered}
use Rattle.byte_streams.proofs.GatheredTexts.{Gathers-then, IsCut-more, IsCut-then}
use Rattle.show_run.specs.StepLog.Console.{console_lines}
use Rattle.show_run.specs.StepLog.StepLines.{before_seen, change_lines}
use Rattle.show_run.proofs.step_log.steps.gather_after.Goals as goal

pub returns-in_err-gather_end-clause-text : goal.returns-in_err-gather_end-clause-text
returns-in_err-gather_end-clause-text g c =
    let p = err_from_is_err_and c.from_residual.result c.from_residual.ensures.1 in
    rw p.1
    (IsCut-more (console_lines c.args.m c.args.machine.now.output ++ change_lines c.args.m (before_seen c.args.before) c.args.machine.now.state) c.in_err-gather_end.ensures.text)

pub returns-in_err-gather_console-clause-text : goal.returns-in_err-gather_console-clause-text
returns-in_err-gather_console-clause-text g c =
    let holds = g.K.Sink.holds in
    let p = err_from_is_err_and c.from_residual-in_err-gather_console.result c.from_residual-in_err-gather_console.ensures.1 in
    let written = subst (λ bytes. IsCut (holds c.gather_end.new.out) (holds c.gather_console.new.out) c.gather_end.new.pending (console_lines c.args.m bytes)) c.output.ensures c.in_err-gather_console.ensures.text in
    rw p.1 (IsCut-then c.in_ok-gather_end.ensures.text (IsCut-more (change_lines c.args.m (before_seen c.args.before) c.args.machine.now.state) written))

pub returns-clause-text : goal.returns-clause-text
returns-clause-text g c =
    let holds = g.K.Sink.holds in
    let end = c.gather_changes in
    let changes = change_lines c.args.m (before_seen c.args.before) c.args.machine.now.state in
    let written = subst (λ bytes. IsGathered (holds c.gather_end.new.out) (holds c.gather_console.new.out) c.gather_end.new.pending c.gather_console.new.pending (console_lines c.args.m bytes)) c.output.ensures c.in_ok-gather_console.ensures.text in
    Gathers-then c.in_ok-gather_end.ensures.text (holds end.new.out) end.new.pending (console_lines c.args.m c.args.machine.now.output ++ changes) end.result
    (Gathers-then written (holds end.new.out) end.new.pending changes end.result end.ensures.text)
