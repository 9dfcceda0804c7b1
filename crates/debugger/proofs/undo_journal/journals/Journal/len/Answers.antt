use Rattle.std.proofs.Common.{length, sym, ap, ◌∙◌}
use Rattle.debugger.specs.UndoJournal.Journals.{Journal}
use Rattle.debugger.proofs.UndoJournal.PastLemmas.{length-past_of}
use Rattle.debugger.proofs.undo_journal.journals.Journal.len.Goals as goal

pub returns : goal.returns
returns g c =
    let i = c.self.inside in
    c.len.ensures.len ∙ (sym (length-past_of i.latest i.former.items i.members.items) ∙ ap (λ (j : Journal g.row.T.Denot). length j.past) c.self.view_is)
