use Rattle.show_run.proofs.places.sessions.checked_machine.Goals as goal

pub returns-in-Ok : goal.returns-in-Ok
returns-in-Ok c = rw c.in-Ok.ensures c.booted_machine.ensures

pub returns-in-Err : goal.returns-in-Err
returns-in-Err c = rw c.in-Err.ensures
