use Rattle.std.proofs.Common.{◌≡◌, ◌+◌, length, sym, ap, ◌∙◌}
use Rattle.debugger.specs.UndoJournal.FormerWords.{addresses_of}
use Rattle.debugger.specs.UndoJournal.Journals.{Journal, noted}
use Rattle.debugger.specs.UndoJournal.KeptJournal.{journal_of}
use Rattle.debugger.proofs.UndoJournal.FormerWordLemmas.{DifferAt-addresses}
use Rattle.debugger.proofs.UndoJournal.KeptJournals.{IsKeptAs, fields, keep-noted, total-noted}
use Rattle.debugger.proofs.undo_journal.journals.Journal.note.Goals as goal

pub drop_oldest-requires : goal.drop_oldest-requires
drop_oldest-requires g c =
    let i = c.self.inside in
    let new = c.args.store.now in
    let size : length i.latest ≡ length new = ap (λ (j : Journal g.row.T.Denot). length j.words) c.self.view_is ∙ sym c.requires in
    ap (λ n. n + c.note_all_words-changed.result) c.len-before.ensures.len
    ∙ total-noted i c.self.invariant new (addresses_of new) size (DifferAt-addresses i.latest new size) c.args.side
    c.note_all_words-changed.result c.push_back.new.self c.push_back.ensures.items

after : (g : _) (c : goal.After-drop_oldest g)
    → IsKeptAs (fields c.note_all_words-changed.new.latest c.drop_oldest.new.former c.drop_oldest.new.members c.self.inside.most_steps c.self.inside.most_changes)
    (noted (journal_of c.self.inside) c.args.store.now c.args.side)
after g c =
    let i = c.self.inside in
    let new = c.args.store.now in
    let words = c.note_all_words-changed in
    let size : length i.latest ≡ length new = ap (λ (j : Journal g.row.T.Denot). length j.words) c.self.view_is ∙ sym c.requires in
    keep-noted i c.self.invariant new (addresses_of new) size (DifferAt-addresses i.latest new size) c.args.side words.result c.push_back.new.self c.push_back.ensures.items
    words.ensures.count words.new.latest words.new.former c.drop_oldest.new.former c.drop_oldest.new.members words.ensures.latest words.ensures.former
    c.drop_oldest.ensures.members c.drop_oldest.ensures.former

pub invariant_of-self : goal.invariant_of-self
invariant_of-self g c = (after g c).kept

pub returns : goal.returns
returns g c = (after g c).is ∙ ap (λ (j : Journal g.row.T.Denot). noted j c.args.store.now c.args.side) c.self.view_is
