use Rattle.std.proofs.Common.{◌≡◌, ◌≤◌, ◌*◌, length}
use Rattle.std.specs.List.{range_with_len}
use Rattle.debugger.specs.UndoJournal.FormerWords.{former_words, with_new_words}
use Rattle.debugger.specs.UndoJournal.Private.Rings.{ring_with}
use Rattle.debugger.proofs.undo_journal.former_words.note_all_words.Given as goal

abbrev pub invariant-loop-area : goal.invariant-loop-area
invariant-loop-area l = record {
  sizes : length l.latest ≡ length l.store;
  latest : l.latest ≡ with_new_words l.fn.latest l.store (range_with_len 0 (l.area * 512));
  room : length l.former.items ≤ l.former.capacity;
  former : l.former ≡ ring_with l.fn.former (former_words l.fn.latest l.store (range_with_len 0 (l.area * 512)));
  count : l.count ≡ length (former_words l.fn.latest l.store (range_with_len 0 (l.area * 512)));
  most : l.count ≤ l.area * 512;
}
