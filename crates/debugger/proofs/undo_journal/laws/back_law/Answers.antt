use Rattle.debugger.proofs.UndoJournal.CutLemmas.{back-side, back-whole, back-words, room-noted}
use Rattle.debugger.proofs.undo_journal.laws.back_law.Goals as goal

pub returns-clause-words : goal.returns-clause-words
returns-clause-words g c = back-words

pub returns-clause-side : goal.returns-clause-side
returns-clause-side g c = back-side

pub returns-clause-room : goal.returns-clause-room
returns-clause-room g c = room-noted

pub returns-clause-whole : goal.returns-clause-whole
returns-clause-whole g c = back-whole
