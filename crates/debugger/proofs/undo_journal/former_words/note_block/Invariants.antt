use Rattle.std.proofs.Common.{◌≡◌, ◌≤◌, ◌-◌, length}
use Rattle.std.specs.List.{range_with_len}
use Rattle.debugger.specs.UndoJournal.FormerWords.{former_words, with_new_words}
use Rattle.debugger.specs.UndoJournal.Private.Rings.{ring_with}
use Rattle.debugger.proofs.undo_journal.former_words.note_block.Given as goal

abbrev pub invariant-loop-address : goal.invariant-loop-address
invariant-loop-address l = record {
  sizes : length l.latest ≡ length l.store;
  latest : l.latest ≡ with_new_words l.fn.latest l.store (range_with_len l.first (l.address - l.first));
  room : length l.former.items ≤ l.former.capacity;
  former : l.former ≡ ring_with l.fn.former (former_words l.fn.latest l.store (range_with_len l.first (l.address - l.first)));
  count : l.count ≡ length (former_words l.fn.latest l.store (range_with_len l.first (l.address - l.first)));
  most : l.count ≤ l.address - l.first;
}
