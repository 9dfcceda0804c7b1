use Rattle.std.proofs.lemmas.Result.{err_from_is_err_and}
use Rattle.byte_streams.proofs.GatheredTexts.{Gathers-then, IsCut-more, IsCut-then}
use Rattle.state_text.proofs.GatheredLines.{gathers-last}
use Rattle.state_text.proofs.deadlock.gather_deadlock_line.Goals as goal

pub returns-in_err-gather-clause-text : goal.returns-in_err-gather-clause-text
returns-in_err-gather-clause-text g c =
    let p = err_from_is_err_and c.from_residual.result c.from_residual.ensures.1 in
    rw p.1 (IsCut-more _ (rw c.deadlock_front.ensures at c.in_err-gather.ensures.text))

pub returns-in_err-gather_chain-clause-text : goal.returns-in_err-gather_chain-clause-text
returns-in_err-gather_chain-clause-text g c =
    let p = err_from_is_err_and c.from_residual-in_err-gather_chain.result c.from_residual-in_err-gather_chain.ensures.1 in
    rw p.1 (IsCut-then (rw c.deadlock_front.ensures at c.in_ok-gather.ensures.text) (IsCut-more _ c.in_err-gather_chain.ensures.text))

pub returns-clause-text : goal.returns-clause-text
returns-clause-text g c =
    let end = c.gather-2 in
    Gathers-then (rw c.deadlock_front.ensures at c.in_ok-gather.ensures.text) _ _ _ end.result (gathers-last c.in_ok-gather_chain.ensures.text _ _ _ end.result end.ensures.text)
