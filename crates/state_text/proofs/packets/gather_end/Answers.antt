use Rattle.state_text.proofs.packets.gather_end.Goals as goal

pub returns-in-Clock-clause-text : goal.returns-in-Clock-clause-text
returns-in-Clock-clause-text g c = rw c.in-Clock.is (rw (← c.word_at.ensures, ← c.word_at-in-Clock.ensures, ← c.from-kind.ensures, ← c.from.ensures) c.gather_pieces.ensures.text)
