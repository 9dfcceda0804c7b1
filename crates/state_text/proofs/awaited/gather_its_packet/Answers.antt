use Rattle.state_text.proofs.awaited.gather_its_packet.Goals as goal

pub returns-in-Clock-clause-text : goal.returns-in-Clock-clause-text
returns-in-Clock-clause-text g c = rw c.in-Clock.is (rw c.word_at-due.ensures at c.gather_number_line.ensures.text)

pub returns-in-Keyboard-clause-text : goal.returns-in-Keyboard-clause-text
returns-in-Keyboard-clause-text g c = rw c.in-Keyboard.is c.gather_its_line.ensures.text

pub returns-in-Output-clause-text : goal.returns-in-Output-clause-text
returns-in-Output-clause-text g c = rw c.in-Output.is c.gather_its_line-in-Output.ensures.text

pub returns-in-Task-clause-text : goal.returns-in-Task-clause-text
returns-in-Task-clause-text g c = rw c.in-Task.is c.gather_number_line-in-Task.ensures.text
