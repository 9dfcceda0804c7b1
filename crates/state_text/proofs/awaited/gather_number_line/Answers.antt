use Rattle.state_text.proofs.awaited.gather_number_line.Goals as goal

pub returns-clause-text : goal.returns-clause-text
returns-clause-text g c = rw (← c.from.ensures, ← c.from-2.ensures) c.gather_pieces.ensures.text
