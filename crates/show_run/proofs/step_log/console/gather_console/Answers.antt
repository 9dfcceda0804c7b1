use Rattle.std.specs.Prelude.{codes, ◌++◌}
use Rattle.std.specs.List.{flat_map}
use Rattle.std.proofs.lemmas.Result.{err_from_is_err_and}
use Rattle.byte_streams.proofs.GatheredTexts.{Gathers-then, IsCut-more, IsCut-then}
use Rattle.show_run.specs.StepLog.Console.{shown}
use Rattle.show_run.proofs.StepLog.ConsoleTexts.{bytes-some, console-some}
use Rattle.show_run.proofs.step_log.console.gather_console.Goals as goal

pub returns-in_err-gather_start-clause-text : goal.returns-in_err-gather_start-clause-text
returns-in_err-gather_start-clause-text g c =
    let p = err_from_is_err_and c.from_residual.result c.from_residual.ensures.1 in
    rw (p.1, console-some c.args.m c.args.bytes.now (bytes-some c.args.bytes.now c.is_empty.result c.is_empty.ensures c.if-is_empty.false)) (IsCut-more (flat_map shown c.args.bytes.now ++ codes "\"\n") c.in_err-gather_start.ensures.text)

pub returns-in_err-gather_shown-clause-text : goal.returns-in_err-gather_shown-clause-text
returns-in_err-gather_shown-clause-text g c =
    let p = err_from_is_err_and c.from_residual-in_err-gather_shown.result c.from_residual-in_err-gather_shown.ensures.1 in
    rw (p.1, console-some c.args.m c.args.bytes.now (bytes-some c.args.bytes.now c.is_empty.result c.is_empty.ensures c.if-is_empty.false)) (IsCut-then c.in_ok-gather_start.ensures.text (IsCut-more (codes "\"\n") c.in_err-gather_shown.ensures.text))

pub returns-clause-text : goal.returns-clause-text
returns-clause-text g c =
    let end = c.gather in
    let holds = g.K.Sink.holds in
    rw (console-some c.args.m c.args.bytes.now (bytes-some c.args.bytes.now c.is_empty.result c.is_empty.ensures c.if-is_empty.false))
    (Gathers-then c.in_ok-gather_start.ensures.text (holds end.new.out) end.new.pending (flat_map shown c.args.bytes.now ++ codes "\"\n") end.result
    (Gathers-then c.in_ok-gather_shown.ensures.text (holds end.new.out) end.new.pending (codes "\"\n") end.result end.ensures.text))
