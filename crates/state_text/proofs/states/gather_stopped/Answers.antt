use Rattle.state_text.proofs.states.gather_stopped.Goals as goal

pub returns-in-Steps-clause-text : goal.returns-in-Steps-clause-text
returns-in-Steps-clause-text g c = rw c.in-Steps.is c.gather.ensures.text

pub returns-in-Finish-clause-text : goal.returns-in-Finish-clause-text
returns-in-Finish-clause-text g c = rw c.in-Finish.is c.gather-in-Finish.ensures.text
