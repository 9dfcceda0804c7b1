use Rattle.std.proofs.lemmas.Result.{err_from_is_err_and}
use Rattle.byte_streams.proofs.GatheredTexts.{Gathers-then, IsCut-more}
use Rattle.show_run.specs.ValueTries.TryTexts.{tried_text}
use Rattle.show_run.proofs.value_tries.texts.gather_gathering.Goals as goal

pub returns-in_err-gather_groups-clause-text : goal.returns-in_err-gather_groups-clause-text
returns-in_err-gather_groups-clause-text g c =
    let p = err_from_is_err_and c.from_residual.result c.from_residual.ensures.1 in
    rw p.1 (IsCut-more (tried_text c.args.gathering.now.tried) (rw c.as_slice.ensures.value at c.in_err-gather_groups.ensures.text))

pub returns-clause-text : goal.returns-clause-text
returns-clause-text g c =
    let end = c.gather_tried in
    Gathers-then (rw c.as_slice.ensures.value at c.in_ok-gather_groups.ensures.text) (g.K.Sink.holds end.new.out) end.new.pending (tried_text c.args.gathering.now.tried) end.result end.ensures.text
