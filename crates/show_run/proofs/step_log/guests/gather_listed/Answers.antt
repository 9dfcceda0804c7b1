use Rattle.std.proofs.lemmas.Result.{err_from_is_err_and}
use Rattle.byte_streams.proofs.GatheredTexts.{Gathers-then, IsCut-more}
use Rattle.debugger.specs.Texts.{instructions_text}
use Rattle.show_run.proofs.step_log.guests.gather_listed.Goals as goal

pub returns-in_err-gather_start-clause-text : goal.returns-in_err-gather_start-clause-text
returns-in_err-gather_start-clause-text g c =
    let p = err_from_is_err_and c.from_residual.result c.from_residual.ensures.1 in
    rw p.1 (IsCut-more (instructions_text c.args.m.pc 1 c.args.store.now) c.in_err-gather_start.ensures.text)

pub returns-clause-text : goal.returns-clause-text
returns-clause-text g c =
    let end = c.gather_instructions in
    Gathers-then c.in_ok-gather_start.ensures.text (g.K.Sink.holds end.new.out) end.new.pending (instructions_text c.args.m.pc 1 c.args.store.now) end.result end.ensures.text
