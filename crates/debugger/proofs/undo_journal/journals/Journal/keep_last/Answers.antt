use Rattle.std.proofs.Common.{sym, ap, ◌∙◌}
use Rattle.debugger.specs.UndoJournal.Journals.{Journal, shortened}
use Rattle.debugger.specs.UndoJournal.KeptJournal.{journal_of}
use Rattle.debugger.proofs.UndoJournal.KeptJournals.{IsKeptAs, fields, keep-last}
use Rattle.debugger.proofs.UndoJournal.PastLemmas.{total_changed-length}
use Rattle.debugger.proofs.undo_journal.journals.Journal.keep_last.Goals as goal

pub drop_oldest-requires : goal.drop_oldest-requires
drop_oldest-requires g c =
    let i = c.self.inside in
    c.len-total.ensures.len ∙ sym (total_changed-length i.latest i.former.items i.members.items c.self.invariant.counted)

after : (g : _) (c : goal.After-drop_oldest g)
    → IsKeptAs (fields c.self.inside.latest c.drop_oldest.new.former c.drop_oldest.new.members c.self.inside.most_steps c.self.inside.most_changes)
    (shortened (journal_of c.self.inside) c.args.n)
after g c =
    keep-last c.self.inside c.self.invariant c.args.n c.len-total.result c.len-total.ensures.len c.drop_oldest.new.former c.drop_oldest.new.members
    c.drop_oldest.ensures.members c.drop_oldest.ensures.former

pub invariant_of-self : goal.invariant_of-self
invariant_of-self g c = (after g c).kept

pub returns : goal.returns
returns g c = (after g c).is ∙ ap (λ (j : Journal g.row.T.Denot). shortened j c.args.n) c.self.view_is
