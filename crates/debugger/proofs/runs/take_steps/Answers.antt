use Rattle.std.proofs.lemmas.Result.{err_from_is_err_and}
use Rattle.debugger.proofs.runs.take_steps.Goals as goal

pub returns-in_err-run-clause-state : goal.returns-in_err-run-clause-state
returns-in_err-run-clause-state g c =
    let p = err_from_is_err_and c.from_residual.result c.from_residual.ensures.1 in
    let cut = c.in_err-run.ensures.end.0 in
    rw p.1 (record { steps = cut.0; few = cut.1; state = cut.2.state })
