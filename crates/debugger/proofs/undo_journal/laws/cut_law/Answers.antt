use Rattle.debugger.proofs.UndoJournal.CutLemmas.{cut-longest, fits-cut, suffix-cut}
use Rattle.debugger.proofs.undo_journal.laws.cut_law.Goals as goal

pub returns-clause-suffix : goal.returns-clause-suffix
returns-clause-suffix g c = suffix-cut

pub returns-clause-fits : goal.returns-clause-fits
returns-clause-fits g c = fits-cut

pub returns-clause-longest : goal.returns-clause-longest
returns-clause-longest g c = cut-longest
