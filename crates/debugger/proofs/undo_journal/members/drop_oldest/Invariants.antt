use Rattle.std.proofs.Common.{◌≡◌, length}
use Rattle.debugger.specs.UndoJournal.KeptPast.{newest_members, total_changed}
use Rattle.debugger.proofs.undo_journal.members.drop_oldest.Given as goal

abbrev pub invariant-loop-members : goal.invariant-loop-members
invariant-loop-members g l = record {
  capacity : l.members.capacity ≡ l.fn.members.capacity;
  left : l.left ≡ total_changed l.members.items;
  newest : newest_members l.steps l.changes l.members.items ≡ newest_members l.steps l.changes l.fn.members.items;
}

abbrev pub decreases-loop-members : goal.decreases-loop-members
decreases-loop-members g l = length l.members.items
