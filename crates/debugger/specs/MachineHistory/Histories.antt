-- A history, as it is kept.
use Rattle.std.specs.Prelude.{ℕ, ◌≡◌, ◌+◌, ◌<◌, ◌≤◌, Bool, true, if◌then◌else◌, Option, Some, None, List, [], ◌∷◌, ◌++◌, ◌-◌, drop, length, map, slice_get, take}
use Rattle.std.specs.List.{AllByRecursion}
use Rattle.circular_buffer.specs.Buffer.{Buffer, buffer, last_item}
use Rattle.debugger.specs.UndoJournal.Journals.{Journal, Past, journal, shortened, side_back, words_back}
use Rattle.bare_machine.specs.declared.parts.BareParts.{BareParts}
use Rattle.kernel_machine.specs.declared.running_machine.parts.Parts.{Parts}
use Rattle.tripos_machine.specs.State.{IsBare, IsSound, State, steps_of, words_of}
use Rattle.tripos_machine.specs.State.State.{Bare, Full}
use Rattle.debugger.specs.MachineHistory.FilesBefore.{files_at, gone_back, second_since}
use Rattle.debugger.specs.MachineHistory.Moments.{HoldsState, read, states, with_moment}
use Rattle.debugger.specs.MachineHistory.Pasts.{Files, HistoryView, is_file_turn, most_changes, most_states}
use Rattle.debugger.specs.declared.machine_history.files.KeptFiles.{KeptFiles}
use Rattle.debugger.specs.declared.machine_history.histories.History.TheInside.{Inside}
use Rattle.debugger.specs.declared.machine_history.moments.Moment.{Moment}
use Rattle.debugger.specs.declared.machine_history.moments.Moment.TheVariants.{Bare as BareKind, Full as FullKind}

-- the files and pipes of a machine with a kernel
abbrev pub ring_of : Option (Buffer KeptFiles) → List KeptFiles
ring_of None = []
ring_of (Some b) = b.items

-- the files that are now, where any are kept
abbrev pub latest : ℕ → Option (Buffer KeptFiles) → Option Files
latest n None = None
latest n (Some b) = Some (files_at n b.items)

-- what contracts see of a history: the states that it keeps, and the one that is now
abbrev pub view_of : Inside → HistoryView
view_of h = record {
  past = states h.keys.items (ring_of h.files) h.journal.past;
  now = record { words = h.journal.words; files = latest h.steps h.files; steps = h.steps; keys = h.keys.items };
}

-- ---- what holds of it

-- what is kept of a state is a state that a machine may have
pub record IsMember (keys : List (ℕ × ℕ)) (n : ℕ) (fs : List KeptFiles) (p : Past Moment) : Type 0 where
  -- it has as many words as the others
  pub size : length p.words ≡ n
  -- its words
  pub words : words_of (read keys fs p) ≡ p.words
  -- they hold it, with the moment
  pub holds : HoldsState keys p.words p.side (read keys fs p)
  -- it is one between steps
  pub sound : IsSound (read keys fs p)

-- each state is a step after the one before it, and n steps are taken now
abbrev pub AreInOrder : ℕ → List State → Type 0
AreInOrder n [] = Unit {0}
AreInOrder n (s ∷ ss) = (steps_of s + length (s ∷ ss) ≡ n) × AreInOrder n ss

-- the steps taken when each of the turns in which files may change was over
abbrev pub turn_steps : List State → List ℕ
turn_steps [] = []
turn_steps (s ∷ ss) = if is_file_turn s then (steps_of s + 1) ∷ turn_steps ss else turn_steps ss

-- the machine has a kernel
abbrev pub IsFull : State → Type 0
IsFull (Bare m) = ⊥
IsFull (Full k) = Unit {0}

-- Files and pipes are kept for 17 moments: those that had come to be before the past began, one at least, and those that the turns
-- have left in which they may change.
pub record AreFilesOf (b : Buffer KeptFiles) (n : ℕ) (ss : List State) : Type 0 where
  -- there are 17
  pub places : length b.items ≡ 17
  -- and room for no more
  pub room : b.capacity ≡ 17
  -- those from before
  pub older : List KeptFiles
  -- those of the turns
  pub live : List KeptFiles
  -- they follow one another
  pub split : older ++ live ≡ b.items
  -- there are some from before
  pub some : 0 < length older
  -- which had come to be when the past began
  pub early : AllByRecursion (λ f. f.since + length ss ≤ n) older
  -- the others came to be in the turns
  pub turns : map (λ f. f.since) live ≡ turn_steps ss
  -- the machine has a kernel
  pub full : AllByRecursion IsFull ss

-- A machine without a kernel has no files.
abbrev pub HasFiles : Option (Buffer KeptFiles) → ℕ → List State → Type 0
HasFiles None n ss = AllByRecursion IsBare ss
HasFiles (Some b) n ss = AreFilesOf b n ss

-- what holds of each history
pub record IsHistory (h : Inside) : Type 0 where
  -- each member is a state
  pub members : AllByRecursion (IsMember h.keys.items (length h.journal.words) (ring_of h.files)) h.journal.past
  -- they follow one another
  pub order : AreInOrder h.steps (states h.keys.items (ring_of h.files) h.journal.past)
  -- their files
  pub files : HasFiles h.files h.steps (states h.keys.items (ring_of h.files) h.journal.past)
  -- how many states the journal keeps
  pub most : h.journal.steps ≡ most_states
  -- and how many changes
  pub changes : h.journal.changes ≡ most_changes

-- ---- what the code does

-- the journal, with room for a turn where files may change in it
abbrev pub roomy : Bool → Option (Buffer KeptFiles) → ℕ → Journal Moment → Journal Moment
roomy true (Some b) n j = shortened j (n - second_since b.items)
roomy _ _ n j = j

-- the files, with those that a turn has left where it may have changed them
abbrev pub with_files : Bool → Option (Buffer KeptFiles) → ℕ → Option Files → Option (Buffer KeptFiles)
with_files true (Some b) n (Some f) = Some (buffer (drop 1 b.items ++ (record { since = n; disc = f.disc; pipes = f.pipes }) ∷ []) b.capacity)
with_files _ o n f = o

-- the journal n states back
abbrev pub journal_back : ℕ → Journal Moment → Journal Moment
journal_back n j = journal (words_back j.words (slice_get j.past (length j.past - n))) (take (length j.past - n) j.past) j.steps j.changes

-- the moment n states back, if there was one
abbrev pub moment_back : ℕ → Journal Moment → Option Moment
moment_back n j = side_back (slice_get j.past (length j.past - n))

-- the files once n steps were taken, where more had been
abbrev pub files_back : ℕ → Option (Buffer KeptFiles) → Option (Buffer KeptFiles)
files_back n None = None
files_back n (Some b) = Some (buffer (gone_back 17 n b.items) b.capacity)

-- ---- the parts of a machine once it has gone back

-- the files that were kept last, if any were
abbrev pub last_files : List KeptFiles → Option KeptFiles
last_files fs = last_item fs

-- the parts of a machine with these files and pipes, if there are any
abbrev pub with_files_of : Option KeptFiles → Parts → Parts
with_files_of None p = p
with_files_of (Some f) p = record p { disc = f.disc; pipes = f.pipes }

-- the parts of a bare machine with the words of its store, and what was kept at the moment, if it was one of its kind
abbrev pub bare_parts_back : Option Moment → List ℕ → BareParts → BareParts
bare_parts_back (Some (BareKind m)) words p = record p { store = words; regs = m.regs; step = m.step }
bare_parts_back _ words p = record p { store = words }

-- the parts of a machine with the words of its store, and what was kept at the moment, if it was one of its kind
abbrev pub at_moment : Option Moment → List ℕ → Parts → Parts
at_moment (Some (FullKind m)) words p = with_moment m (record p { store = words })
at_moment _ words p = record p { store = words }

-- the parts of a machine with the files that there were after its steps, if any are kept
abbrev pub with_kept_files : Option (Buffer KeptFiles) → Parts → Parts
with_kept_files None p = p
with_kept_files (Some b) p = with_files_of (last_files (gone_back 17 p.step b.items)) p

-- the parts of a machine at a moment: its words, what was kept of it, and its files and pipes
abbrev pub parts_back : Option Moment → List ℕ → Option (Buffer KeptFiles) → Parts → Parts
parts_back moment words files p = with_kept_files files (at_moment moment words p)

-- files are kept in all places, and there are some
abbrev pub HasPlaces : Option (Buffer KeptFiles) → Type 0
HasPlaces None = Unit {0}
HasPlaces (Some b) = (0 < length b.items) × (length b.items ≤ b.capacity)

-- the parts have the files that were kept last, if any are
abbrev pub HasLastFiles : Option (Buffer KeptFiles) → Parts → Type 0
HasLastFiles None p = Unit {0}
HasLastFiles (Some b) p = with_files_of (last_files b.items) p ≡ p

-- so many keys had come at the moment as the machine has, at most
abbrev pub HasCome : Option Moment → Parts → Type 0
HasCome (Some (FullKind m)) p = m.come ≤ length p.keys.keys
HasCome _ p = Unit {0}
