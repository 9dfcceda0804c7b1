use Rattle.state_text.proofs.packets.gather_name.Goals as goal

pub returns-in-4294967294-clause-text : goal.returns-in-4294967294-clause-text
returns-in-4294967294-clause-text g c = rw c.in-4294967294.is c.gather-in-4294967294.ensures.text
