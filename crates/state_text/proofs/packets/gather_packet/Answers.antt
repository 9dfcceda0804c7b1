use Rattle.std.proofs.lemmas.Result.{err_from_is_err_and}
use Rattle.byte_streams.proofs.GatheredTexts.{Gathers-then, IsCut-more, IsCut-then}
use Rattle.state_text.proofs.GatheredLines.{gathers-last}
use Rattle.state_text.proofs.packets.gather_packet.Goals as goal

pub returns-in_err-gather_front-clause-text : goal.returns-in_err-gather_front-clause-text
returns-in_err-gather_front-clause-text g c =
    let p = err_from_is_err_and c.from_residual.result c.from_residual.ensures.1 in
    rw p.1 (IsCut-more _ c.in_err-gather_front.ensures.text)

pub returns-in_err-gather_name-clause-text : goal.returns-in_err-gather_name-clause-text
returns-in_err-gather_name-clause-text g c =
    let p = err_from_is_err_and c.from_residual-in_err-gather_name.result c.from_residual-in_err-gather_name.ensures.1 in
    rw p.1 (IsCut-then c.in_ok-gather_front.ensures.text (IsCut-more _ (rw c.word_at.ensures at c.in_err-gather_name.ensures.text)))

pub returns-clause-text : goal.returns-clause-text
returns-clause-text g c =
    let end = c.gather_end in
    Gathers-then c.in_ok-gather_front.ensures.text _ _ _ end.result (gathers-last (rw c.word_at.ensures at c.in_ok-gather_name.ensures.text) _ _ _ end.result end.ensures.text)
