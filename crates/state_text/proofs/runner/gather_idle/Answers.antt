use Rattle.state_text.proofs.runner.gather_idle.Goals as goal

pub returns-clause-text : goal.returns-clause-text
returns-clause-text g c = rw (← c.idle_words.ensures) c.gather_pieces.ensures.text
