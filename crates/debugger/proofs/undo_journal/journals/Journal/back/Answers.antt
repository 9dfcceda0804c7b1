use Rattle.std.proofs.Common.{sym, ap, ◌∙◌}
use Rattle.circular_buffer.specs.Buffer.{last_item}
use Rattle.debugger.specs.UndoJournal.Journals.{Journal, side_back, went_back, words_back}
use Rattle.debugger.proofs.UndoJournal.KeptJournals.{IsBack, fields, is-back}
use Rattle.debugger.proofs.UndoJournal.PastLemmas.{IsLast-last_item}
use Rattle.debugger.proofs.undo_journal.journals.Journal.back.Goals as goal

pub put_back-requires-clause-enough : goal.put_back-requires-clause-enough
put_back-requires-clause-enough g c =
    let i = c.self.inside in
    (IsLast-last_item i.latest i.former.items i.members.items c.in_ok-side.field-0 c.self.invariant.counted (sym c.in_ok-side.ensures.value)).low

after : (g : _) (c : goal.After-put_back g)
    → IsBack c.self.inside c.in_ok-side.field-0 (fields c.put_back.new.latest c.put_back.new.former c.pop_back.new.self c.self.inside.most_steps c.self.inside.most_changes)
after g c =
    is-back c.self.inside c.self.invariant c.in_ok-side.field-0 (sym c.in_ok-side.ensures.value) c.put_back.new.latest c.put_back.new.former c.pop_back.new.self
    c.put_back.ensures.latest c.put_back.ensures.former c.in_ok-side.ensures.items

pub invariant_of-self-2 : goal.invariant_of-self-2
invariant_of-self-2 g c = (after g c).kept.kept

pub returns-clause-side : goal.returns-clause-side
returns-clause-side g c = (after g c).side ∙ ap (λ (j : Journal g.row.T.Denot). side_back (last_item j.past)) c.self.view_is

pub returns-clause-journal : goal.returns-clause-journal
returns-clause-journal g c = (after g c).kept.is ∙ ap (λ (j : Journal g.row.T.Denot). went_back j) c.self.view_is

pub returns-clause-store : goal.returns-clause-store
returns-clause-store g c =
    c.put_back.ensures.store ∙ ((after g c).words ∙ ap (λ (j : Journal g.row.T.Denot). words_back j.words (last_item j.past)) c.self.view_is)
