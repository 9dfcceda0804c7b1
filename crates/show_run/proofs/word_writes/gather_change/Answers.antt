use Rattle.std.specs.Option.{option_map}
use Rattle.std.proofs.lemmas.Result.{err_from_is_err_and}
use Rattle.byte_streams.proofs.GatheredTexts.{Gathers-then, IsCut-more}
use Rattle.show_run.specs.StepLog.Calls.{call_seen}
use Rattle.show_run.specs.StepLog.Writes.{write_line}
use Rattle.show_run.proofs.WrittenSteps.{change-parts}
use Rattle.show_run.proofs.word_writes.gather_change.Goals as goal

pub returns-in_err-gather_call-clause-text : goal.returns-in_err-gather_call-clause-text
returns-in_err-gather_call-clause-text g c =
    let a = c.args in
    let p = err_from_is_err_and c.from_residual.result c.from_residual.ensures.1 in
    rw (p.1, change-parts a.m (option_map call_seen a.call) a.address a.old a.new c.if-old-new.false) (IsCut-more (write_line a.m a.address a.old a.new) c.in_err-gather_call.ensures.text)

pub returns-clause-text : goal.returns-clause-text
returns-clause-text g c =
    let a = c.args in
    let end = c.gather_write in
    rw (change-parts a.m (option_map call_seen a.call) a.address a.old a.new c.if-old-new.false)
    (Gathers-then c.in_ok-gather_call.ensures.text (g.K.Sink.holds end.new.out) end.new.pending (write_line a.m a.address a.old a.new) end.result end.ensures.text)
