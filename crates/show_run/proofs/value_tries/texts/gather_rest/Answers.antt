use Rattle.std.proofs.lemmas.Result.{err_from_is_err_and}
use Rattle.byte_streams.proofs.GatheredTexts.{Gathers-then, IsCut-more}
use Rattle.show_run.specs.ValueTries.TryTexts.{bytes_text}
use Rattle.show_run.proofs.value_tries.texts.gather_rest.Goals as goal

pub returns-in_err-gather_values-clause-text : goal.returns-in_err-gather_values-clause-text
returns-in_err-gather_values-clause-text g c =
    let p = err_from_is_err_and c.from_residual.result c.from_residual.ensures.1 in
    rw p.1 (IsCut-more (bytes_text c.args.group.now.outcome.bytes) (rw c.as_slice.ensures at c.in_err-gather_values.ensures.text))

pub returns-clause-text : goal.returns-clause-text
returns-clause-text g c =
    let end = c.gather_bytes in
    Gathers-then (rw c.as_slice.ensures at c.in_ok-gather_values.ensures.text) (g.K.Sink.holds end.new.out) end.new.pending (bytes_text c.args.group.now.outcome.bytes) end.result (rw c.as_slice-2.ensures at end.ensures.text)
