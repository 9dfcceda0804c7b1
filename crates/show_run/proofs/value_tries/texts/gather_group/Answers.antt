use Rattle.std.proofs.lemmas.Result.{err_from_is_err_and}
use Rattle.byte_streams.proofs.GatheredTexts.{Gathers-then, IsCut-more}
use Rattle.show_run.specs.ValueTries.TryTexts.{rest_text}
use Rattle.show_run.proofs.value_tries.texts.gather_group.Goals as goal

pub returns-in_err-gather_line-clause-text : goal.returns-in_err-gather_line-clause-text
returns-in_err-gather_line-clause-text g c =
    let p = err_from_is_err_and c.from_residual.result c.from_residual.ensures.1 in
    rw p.1 (IsCut-more (rest_text c.args.group.now) c.in_err-gather_line.ensures.text)

pub returns-clause-text : goal.returns-clause-text
returns-clause-text g c =
    let end = c.gather_rest in
    Gathers-then c.in_ok-gather_line.ensures.text (g.K.Sink.holds end.new.out) end.new.pending (rest_text c.args.group.now) end.result end.ensures.text
