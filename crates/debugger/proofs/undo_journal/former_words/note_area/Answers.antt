use Rattle.std.proofs.Common.{◌≡◌, ℕ, ◌+◌, ◌-◌, ◌<◌, ap, get_or, length, sym, ◌∙◌}
use Rattle.debugger.proofs.UndoJournal.FormerWordLemmas.{former_words-same, same_words, with_new_words-same}
use Rattle.debugger.proofs.UndoJournal.RingLemmas.{ring_with-none}
use Rattle.debugger.specs.UndoJournal.Private.Rings.{ring_with}
use Rattle.debugger.proofs.undo_journal.former_words.note_area.Goals as goal

-- the words of the area are the same
same : (c : goal.Then-are_same_words) → (i : ℕ) → i < c.args.end - c.args.first
    → get_or c.args.latest.now (c.args.first + i) 0 ≡ get_or c.args.store.now (c.args.first + i) 0
same c = same_words c.args.latest.now c.args.store.now c.args.first c.args.end (sym c.are_same_words.ensures ∙ c.if-are_same_words.true)

pub returns-then-are_same_words-clause-latest : goal.returns-then-are_same_words-clause-latest
returns-then-are_same_words-clause-latest c = sym (with_new_words-same c.args.latest.now c.args.store.now c.args.first (c.args.end - c.args.first) (same c))

pub returns-then-are_same_words-clause-former : goal.returns-then-are_same_words-clause-former
returns-then-are_same_words-clause-former c =
    sym (ring_with-none c.args.former.now c.requires.room)
    ∙ ap (ring_with c.args.former.now) (sym (former_words-same c.args.latest.now c.args.store.now c.args.first (c.args.end - c.args.first) (same c)))

pub returns-then-are_same_words-clause-count : goal.returns-then-are_same_words-clause-count
returns-then-are_same_words-clause-count c = ap length (sym (former_words-same c.args.latest.now c.args.store.now c.args.first (c.args.end - c.args.first) (same c)))
