-- What is set anew in a session, and the session with another value of it.
use Rattle.std.specs.Prelude.{ℕ, ◌-◌, ◌==◌, ◌&&◌, if◌then◌else◌, Bool, false, not, List, [], ◌∷◌, map, length, nat_le}
use Rattle.std.specs.List.{list_any}
use Rattle.kernel_model.specs.KernelRecord.Ranges.{is_period}
use Rattle.session_text.specs.Ranges.{is_priority, is_stack, is_step}
use Rattle.session_text.specs.declared.sessions.LineForm.{LineForm}
use Rattle.session_text.specs.declared.sessions.LineForm.TheVariants.{Code, File, Task}
use Rattle.session_text.specs.declared.sessions.Session.{Session}
use Rattle.session_text.specs.declared.sessions.SessionLine.{SessionLine}
use Rattle.show_run.specs.declared.value_tries.settings.Setting.{Setting}
use Rattle.show_run.specs.declared.value_tries.settings.Setting.TheVariants.{Tick, Key, Priority, Stack}

-- the form of the line of the task with this number
abbrev pub is_form_of : ℕ → LineForm → Bool
is_form_of task (Code bytes) = false
is_form_of task (File name bytes) = false
is_form_of task (Task id pri stack names) = id == task

-- that line
abbrev pub is_line_of : ℕ → SessionLine → Bool
is_line_of task line = is_form_of task line.form

-- whether a session has what is set: a clock, the key with this number, from 1, or a task with this number
abbrev pub is_there : Setting → Session → Bool
is_there Tick s = not s.bare
is_there (Key number) s = nat_le 1 number && nat_le number (length s.keys)
is_there (Priority task) s = list_any (is_line_of task) s.lines
is_there (Stack task) s = list_any (is_line_of task) s.lines

-- whether a session may have such a value there
abbrev pub is_in_range : Setting → ℕ → Bool
is_in_range Tick value = is_period value
is_in_range (Key number) value = is_step value
is_in_range (Priority task) value = is_priority value
is_in_range (Stack task) value = is_stack value

-- keys, of which the one with this number, from 1, is due at this step
abbrev pub keys_with : ℕ → ℕ → List (ℕ × ℕ) → List (ℕ × ℕ)
keys_with number step [] = []
keys_with number step (key ∷ keys) =
    if number == 1 then (step, key.1) ∷ keys else key ∷ keys_with (number - 1) step keys

-- a line, of which the task, if it is that of this number, has this priority
abbrev pub form_with_priority : ℕ → ℕ → LineForm → LineForm
form_with_priority task priority (Code bytes) = Code bytes
form_with_priority task priority (File name bytes) = File name bytes
form_with_priority task priority (Task id pri stack names) = Task id (if id == task then priority else pri) stack names

-- the same of a line of a session
abbrev pub line_with_priority : ℕ → ℕ → SessionLine → SessionLine
line_with_priority task priority line = record line { form = form_with_priority task priority line.form }

-- a line, of which the task, if it is that of this number, has a stack with this highest index
abbrev pub form_with_stack : ℕ → ℕ → LineForm → LineForm
form_with_stack task highest (Code bytes) = Code bytes
form_with_stack task highest (File name bytes) = File name bytes
form_with_stack task highest (Task id pri stack names) = Task id pri (if id == task then highest else stack) names

-- the same of a line of a session
abbrev pub line_with_stack : ℕ → ℕ → SessionLine → SessionLine
line_with_stack task highest line = record line { form = form_with_stack task highest line.form }

-- the session with this value, and all else as it was
abbrev pub session_with : Setting → ℕ → Session → Session
session_with Tick value s = record s { period = value }
session_with (Key number) value s = record s { keys = keys_with number value s.keys }
session_with (Priority task) value s = record s { lines = map (line_with_priority task value) s.lines }
session_with (Stack task) value s = record s { lines = map (line_with_stack task value) s.lines }
