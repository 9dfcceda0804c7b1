use Rattle.std.proofs.lemmas.Result.{err_from_is_err_and}
use Rattle.byte_streams.proofs.GatheredTexts.{Gathers-then, IsCut-more}
use Rattle.show_run.specs.ValueTries.TryTexts.{ending_text}
use Rattle.show_run.proofs.value_tries.texts.gather_line.Goals as goal

pub returns-in_err-gather_head-clause-text : goal.returns-in_err-gather_head-clause-text
returns-in_err-gather_head-clause-text g c =
    let p = err_from_is_err_and c.from_residual.result c.from_residual.ensures.1 in
    rw p.1 (IsCut-more (ending_text c.args.group.now.outcome.ending) c.in_err-gather_head.ensures.text)

pub returns-clause-text : goal.returns-clause-text
returns-clause-text g c =
    let end = c.gather_ending in
    Gathers-then c.in_ok-gather_head.ensures.text (g.K.Sink.holds end.new.out) end.new.pending (ending_text c.args.group.now.outcome.ending) end.result end.ensures.text
