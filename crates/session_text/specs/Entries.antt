-- The entries of a machine with a clock: files with their text, tasks, and keys; and what each puts into the session.
use Rattle.std.specs.Prelude.{ℕ, ◌≡◌, ◌+◌, ◌&&◌, Bool, true, IsTrue, List, [], ◌∷◌, ◌++◌, map, length, codes, nat_le}
use Rattle.std.specs.List.{AllByRecursion, flat_map, list_all}
use Rattle.module_text.specs.TextReader.Lines.{text_of_lines}
use Rattle.ram_disc.specs.Name.{is_name}
use Rattle.session_text.specs.Ranges.{is_priority, is_stack, is_step, is_task, most_names}
use Rattle.session_text.specs.Statements.{Statement, File, Task, At, Key, Go, States, is_text}
use Rattle.session_text.specs.declared.sessions.SessionLine.{SessionLine}
use Rattle.session_text.specs.declared.sessions.LineForm.TheVariants.{File as FileForm, Task as TaskForm}

-- the statement's numbers and names are in their ranges
abbrev pub is_in_range : ℕ → Statement → Bool
is_in_range version (File name) = is_name name
is_in_range version (Task id pri stack names) =
    is_task version id && is_priority pri && is_stack stack && list_all is_name names
is_in_range version (At step text) = is_step step
is_in_range version (Key step byte) = is_step step
is_in_range version (Go steps) = is_step steps

-- a task has no more names than its version allows
abbrev pub names_fit : ℕ → Statement → Bool
names_fit version (Task id pri stack names) = nat_le (length names) (most_names version)
names_fit version _ = true

-- a statement, and the lines of text after it, without their colons
pub record Entry : Type 0 where
  -- what its first line states
  pub statement : Statement
  -- the lines of text, each without its colon
  pub texts : List (List ℕ)

-- the lines of text belong to a file, and `GO` is the end
abbrev pub MayHave : Statement → List (List ℕ) → Type 0
MayHave (File name) texts = AllByRecursion (λ text. IsTrue (is_text text)) texts
MayHave (Go steps) texts = ⊥
MayHave _ texts = texts ≡ []

-- a line of text
abbrev pub colon_line : List ℕ → List ℕ
colon_line text = codes ":" ++ text

-- these lines are the entry
pub record IsEntry (version : ℕ) (entry : Entry) (lines : List (List ℕ)) : Type 0 where
  -- its first line
  pub head : List ℕ
  -- that line and those of text are all
  pub all : lines ≡ head ∷ map colon_line entry.texts
  -- the first line states this
  pub states : States entry.statement head
  -- a task has no more names than its version allows
  pub fits : IsTrue (names_fit version entry.statement)
  -- its numbers and its names are lawful
  pub in_range : IsTrue (is_in_range version entry.statement)
  -- such lines of text may follow
  pub texts_are : MayHave entry.statement entry.texts

-- these lines are the entries, one after the other
abbrev pub AreEntries : ℕ → List Entry → List (List ℕ) → Type 0
AreEntries version [] lines = lines ≡ []
AreEntries version (entry ∷ entries) lines =
    (front rest : List (List ℕ)) × (lines ≡ front ++ rest) × IsEntry version entry front × AreEntries version entries rest

-- the session's line for a statement of line n, with the bytes of a file
abbrev pub statement_lines : ℕ → Statement → List ℕ → List SessionLine
statement_lines n (File name) bytes = record { line = n; form = FileForm name bytes } ∷ []
statement_lines n (Task id pri stack names) bytes = record { line = n; form = TaskForm id pri stack names } ∷ []
statement_lines n _ bytes = []

-- the keys of a statement, each with its step
abbrev pub statement_keys : Statement → List (ℕ × ℕ)
statement_keys (At step text) = map (λ c. (step, c)) (text ++ 10 ∷ [])
statement_keys (Key step byte) = (step, byte) ∷ []
statement_keys _ = []

-- the files and tasks of entries, the first of which is in line n
abbrev pub lines_in : ℕ → List Entry → List SessionLine
lines_in n [] = []
lines_in n (entry ∷ entries) =
    statement_lines n entry.statement (text_of_lines entry.texts) ++ lines_in (n + 1 + length entry.texts) entries

-- their keys, in the order of the lines
abbrev pub keys_in : List Entry → List (ℕ × ℕ)
keys_in entries = flat_map (λ entry. statement_keys entry.statement) entries
