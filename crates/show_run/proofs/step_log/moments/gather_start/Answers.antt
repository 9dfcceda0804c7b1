use Rattle.std.specs.List.{flat_map}
use Rattle.std.proofs.lemmas.Result.{err_from_is_err_and}
use Rattle.byte_streams.specs.Pieces.{text_of}
use Rattle.byte_streams.proofs.GatheredTexts.{Gathers-then, IsCut-more}
use Rattle.show_run.specs.StepLog.Moments.{start}
use Rattle.show_run.proofs.step_log.moments.gather_start.Goals as goal

pub returns-in_err-gather_prefix-clause-text : goal.returns-in_err-gather_prefix-clause-text
unfolding start
returns-in_err-gather_prefix-clause-text g c =
    let p = err_from_is_err_and c.from_residual.result c.from_residual.ensures.1 in
    rw p.1 (IsCut-more (flat_map text_of c.args.what.now) c.in_err-gather_prefix.ensures.text)

pub returns-clause-text : goal.returns-clause-text
unfolding start
returns-clause-text g c =
    let end = c.gather_pieces in
    Gathers-then c.in_ok-gather_prefix.ensures.text (g.K.Sink.holds end.new.out) end.new.pending (flat_map text_of c.args.what.now) end.result end.ensures.text
