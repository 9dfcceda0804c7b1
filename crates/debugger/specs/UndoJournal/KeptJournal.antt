-- What a journal's fields are, and when they are valid.
use Rattle.std.specs.Prelude.{◌≡◌, ◌+◌, ◌≤◌, ◌<◌, ◌^◌, length}
use Rattle.debugger.specs.UndoJournal.Journals.{Journal, journal}
use Rattle.debugger.specs.UndoJournal.KeptPast.{AreCounted, past_of}
use Rattle.debugger.specs.declared.undo_journal.journals.Journal.TheInside.{Inside}

-- the journal that these fields are
abbrev pub journal_of : {T : Type 0} → Inside T → Journal T
journal_of j = journal j.latest (past_of j.latest j.former.items j.members.items) j.most_steps j.most_changes

-- valid fields
pub record IsKept {T : Type 0} (j : Inside T) : Type 0 where
  -- each member has as many former words as words change from it to the next
  pub counted : AreCounted j.latest j.former.items j.members.items
  -- past has no more members than it may have
  pub few : length j.members.items ≤ j.most_steps
  -- there is room for the former words of as many changes as there may be
  pub room : j.former.capacity ≡ j.most_changes
  -- there is a place for the member that a note adds before the oldest go
  pub places : j.members.capacity ≡ j.most_steps + 1
  -- the number of members is a word
  pub bound : j.most_steps < 2 ^ 32
