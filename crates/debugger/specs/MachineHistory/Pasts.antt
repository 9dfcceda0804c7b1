-- The states that a machine can go back to, the oldest first.
use Rattle.std.specs.Prelude.{ℕ, ◌+◌, ◌-◌, ◌==◌, ◌&&◌, ◌||◌, Bool, false, if◌then◌else◌, nat_le, Option, Some, None, List, [], ◌∷◌, ◌++◌, length, take, slice_index_or}
use Rattle.ram_disc.specs.Disc.{Disc}
use Rattle.debugger.specs.UndoJournal.Journals.{differing}
use Rattle.kernel_model.specs.KernelRecord.Kernel.{Pipe}
use Rattle.tripos_machine.specs.State.{State, steps_of, words_of}
use Rattle.tripos_machine.specs.State.State.{Bare, Full}

-- the files, the streams that are open on them, and the pipes
pub record Files : Type 0 where
  -- the files and the streams
  pub disc : Disc
  -- the pipes
  pub pipes : List (Option Pipe)

-- the files and pipes of a state; a machine without a kernel has none
abbrev pub files_of : State → Option Files
files_of (Bare m) = None
files_of (Full k) = Some (record { disc = k.disc; pipes = k.pipes })

-- what a history knows of the state that is now
pub record Now : Type 0 where
  -- the words of its store
  pub words : List ℕ
  -- its files and pipes, if it has them
  pub files : Option Files
  -- the steps taken so far
  pub steps : ℕ
  -- all keys of its script, those that have come too
  pub keys : List (ℕ × ℕ)

-- what a history knows of a state
abbrev pub now_of : State → List (ℕ × ℕ) → Now
now_of s keys = record { words = words_of s; files = files_of s; steps = steps_of s; keys = keys }

-- A history, as contracts see it.
pub record HistoryView : Type 0 where
  -- the states that can be gone back to, the oldest first
  pub past : List State
  -- what is known of the state that follows on the last of them
  pub now : Now

-- ---- how much is kept

-- the most states
abbrev pub most_states : ℕ
most_states = 4096

-- the most words that change from one of them to the next, all together
abbrev pub most_changes : ℕ
most_changes = 65536

-- the most of them in which files or pipes may change
abbrev pub most_turns : ℕ
most_turns = 16

-- the shell's turn or the file handler's is next: in no other step files, streams or pipes change
abbrev pub is_file_turn : State → Bool
is_file_turn (Bare m) = false
is_file_turn (Full k) = k.lists.running == 1 || k.lists.running == 4

-- how many of these states have such a turn next
abbrev pub file_turns : List State → ℕ
file_turns [] = 0
file_turns (s ∷ ss) = (if is_file_turn s then 1 else 0) + file_turns ss

-- the first of these states, or the one that follows on them
abbrev pub first_of : List State → State → State
first_of [] now = now
first_of (s ∷ ss) now = s

-- how many words change from each to the next, and from the last to the one that follows
abbrev pub changes : List State → State → ℕ
changes [] now = 0
changes (s ∷ ss) now = differing (words_of s) (words_of (first_of ss now)) + changes ss now

-- a history has room for these states: for their number, for the words that change between them, and for their files
abbrev pub fits : List State → State → Bool
fits ss now = nat_le (length ss) most_states && nat_le (changes ss now) most_changes && nat_le (file_turns ss) most_turns

-- the longest suffix that fits
abbrev pub kept : List State → State → List State
kept [] now = []
kept (s ∷ ss) now = if fits (s ∷ ss) now then s ∷ ss else kept ss now

-- what can be gone back to once a step has led from a state to another
abbrev pub remembered : List State → State → State → List State
remembered past s t = kept (past ++ s ∷ []) t

-- ---- going back

-- the state n steps back, or the oldest where there are fewer; it is the one that is now where nothing is past
abbrev pub state_back : ℕ → List State → State → State
state_back n past now = slice_index_or past (length past - n) now

-- what is past then
abbrev pub past_back : ℕ → List State → List State
past_back n past = take (length past - n) past
