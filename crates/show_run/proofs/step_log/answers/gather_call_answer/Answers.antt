use Rattle.show_run.proofs.step_log.answers.gather_call_answer.Goals as goal

pub returns-in-Waits-clause-text : goal.returns-in-Waits-clause-text
returns-in-Waits-clause-text g c = rw c.in-Waits.is c.gather_line.ensures.text
