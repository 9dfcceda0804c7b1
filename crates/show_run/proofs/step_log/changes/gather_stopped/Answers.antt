use Rattle.show_run.proofs.step_log.changes.gather_stopped.Goals as goal

pub returns-in-Finish-clause-text : goal.returns-in-Finish-clause-text
returns-in-Finish-clause-text g c = rw c.in-Finish.is c.gather_line-in-Finish.ensures.text
