-- A turn of the console, of which some parts are done.
use Rattle.std.specs.Prelude.{◌≡◌, ℕ, ◌≤◌, List, [], ◌++◌, length, map, slice_index, unwrap_or}
use Rattle.std.specs.List.{range_with_len}
use Rattle.kernel_lists.specs.OwnedWords.Owned.{Pairs, owners, word_in, written}
use Rattle.kernel_lists.specs.declared.packet_queue.events.KernelEvent.{KernelEvent}
use Rattle.kernel_model.specs.KernelRecord.ChangedStore.{IsChanged, Knows}
use Rattle.kernel_model.specs.KernelRecord.Kernel.{Console}
use Rattle.kernel_model.specs.KernelRecord.Lists.{Lists}
use Rattle.kernel_model.specs.KernelRecord.NotedEvents.{NotesAll}
use Rattle.kernel_model.specs.KernelRecord.Owned.{owned}
use Rattle.kernel_calls.specs.CallAnswers.Outside.{Outside}
use Rattle.resident_tasks.specs.ResidentRequests.Requests.{RunsResident}
use Rattle.kernel_model.specs.declared.kernel_record.numbers.TheConstants.{CONSOLE}

-- How far a turn of the console has come: the parts of a ResidentTurn so far, but with the words as they are now, and what the
-- console keeps.
pub record ConsoleTurn : Type 0 where
  -- the words of the store, from address 0
  pub words : List ℕ
  -- the lists that they hold
  pub lists : Lists
  -- the plain words that were written so far, the last ones first
  pub plain : Pairs
  -- the events so far, in their order
  pub events : List KernelEvent
  -- the bytes that went to the console so far
  pub bytes : List ℕ
  -- the console's line
  pub console : Console
  -- the line that the shell has
  pub command : List ℕ

-- nothing is done yet
abbrev pub begun : List ℕ → Lists → Console → List ℕ → ConsoleTurn
begun s l c k = record { words = s; lists = l; plain = []; bytes = []; events = []; console = c; command = k }

-- the words of a store once it holds these lists, and these plain words were written
unfoldable pub settled_words : List ℕ → Lists → Pairs → List ℕ
settled_words s l plain = map (λ a. unwrap_or (word_in a (owned l)) (slice_index (written plain s) a)) (range_with_len 0 (length s))

-- a part more is done, which leaves these lists, has written these plain words, and has these events
abbrev pub and_then : ConsoleTurn → Lists → Pairs → List KernelEvent → ConsoleTurn
and_then g l plain events = record g {
  words = settled_words g.words l plain;
  lists = l;
  plain = plain ++ g.plain;
  events = g.events ++ events;
}

-- How a turn of the console begins.
pub record ConsoleStart : Type 0 where
  -- the words of the store, from address 0
  pub words : List ℕ
  -- the lists that they hold
  pub lists : Lists
  -- the console bytes and the log
  pub outside : Outside

-- So much is done since then: the store is t, the keeper knows the words of its lists, and the rest is as the code has it. The same
-- words are owned.
pub record IsDone (b : ConsoleStart) (t : List ℕ) (tells : List ℕ → Type 0) (room : ℕ) (now : Outside) (console : Console) (command : List ℕ) (g : ConsoleTurn) : Type 0 where
  -- these are all words of the store
  pub words : t ≡ g.words
  -- the store holds the lists, and the plain words alone have changed
  pub lists : IsChanged b.words t g.lists g.plain
  -- the keeper knows the words of the lists
  pub knows : Knows tells g.lists
  -- the keeper has room for all words
  pub enough : length t ≤ room
  -- the same words are owned
  pub same : (a : ℕ) → owners a (owned g.lists) ≡ owners a (owned b.lists)
  -- the bytes went to the console
  pub bytes : now.shown ≡ b.outside.shown ++ g.bytes
  -- the events went to the log
  pub notes : NotesAll b.outside.noted now.noted b.outside.failed now.failed g.events
  -- the console's line
  pub line : console ≡ g.console
  -- the line that the shell has
  pub shell : command ≡ g.command
  -- a resident runs
  pub runs : RunsResident g.lists
  -- it is the console
  pub is : g.lists.running ≡ CONSOLE
