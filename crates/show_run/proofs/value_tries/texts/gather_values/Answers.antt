use Rattle.std.proofs.lemmas.Result.{err_from_is_err_and}
use Rattle.byte_streams.proofs.GatheredTexts.{Gathers-then, IsCut-more}
use Rattle.show_run.specs.ValueTries.TryTexts.{spans_text}
use Rattle.show_run.proofs.value_tries.texts.gather_values.Goals as goal

pub returns-in_err-gather-clause-text : goal.returns-in_err-gather-clause-text
returns-in_err-gather-clause-text g c =
    let p = err_from_is_err_and c.from_residual.result c.from_residual.ensures.1 in
    rw p.1 (IsCut-more (spans_text c.args.spans.now) c.in_err-gather.ensures.text)

pub returns-clause-text : goal.returns-clause-text
returns-clause-text g c =
    let end = c.gather_spans in
    Gathers-then c.in_ok-gather.ensures.text (g.K.Sink.holds end.new.out) end.new.pending (spans_text c.args.spans.now) end.result end.ensures.text
