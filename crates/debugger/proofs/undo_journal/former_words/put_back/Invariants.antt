use Rattle.std.proofs.Common.{◌≡◌, ◌-◌, length, take, drop}
use Rattle.circular_buffer.specs.Buffer.{buffer}
use Rattle.debugger.specs.UndoJournal.FormerWords.{words_before}
use Rattle.debugger.proofs.undo_journal.former_words.put_back.Given as goal

abbrev pub invariant-loop-i : goal.invariant-loop-i
invariant-loop-i l = record {
  former : l.former ≡ buffer (take (length l.fn.former.items - l._i) l.fn.former.items) l.fn.former.capacity;
  latest : l.latest ≡ words_before (drop (length l.fn.former.items - l._i) l.fn.former.items) l.fn.latest;
  store : l.store ≡ l.latest;
}
