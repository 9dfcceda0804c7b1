-- The session that is made, and its text.
use Rattle.std.specs.Prelude.{ℕ, zero, suc, ◌&&◌, Bool, true, false, List, [], ◌∷◌, ◌++◌, length, map, take, drop, codes, decimal}
use Rattle.std.specs.List.{flat_map}
use Rattle.byte_streams.specs.Pieces.{joined}
use Rattle.hex.specs.Hex.{encode_lower}
use Rattle.module_text.specs.TextReader.Lines.{text_of_lines}
use Rattle.session_text.specs.Canonical.{head_text, lines_text, machine_text}
use Rattle.session_text.specs.declared.sessions.LineForm.TheVariants.{Code, File, Task}
use Rattle.session_text.specs.declared.sessions.Session.{Session}
use Rattle.session_text.specs.declared.sessions.SessionLine.{SessionLine}
use Rattle.session_making.specs.declared.makings.MadeTask.{MadeTask}
use Rattle.session_making.specs.declared.makings.Typed.{Typed}
use Rattle.session_making.specs.declared.makings.Typed.TheVariants.{Text as TypedText, Key as TypedKey}
use Rattle.session_making.specs.declared.programs.MadeFile.{MadeFile}
use Rattle.session_making.specs.declared.requests.Kind.{Kind}
use Rattle.session_making.specs.declared.requests.Kind.TheVariants.{Bare, Guests, Shell}
use Rattle.session_making.specs.declared.requests.Request.{Request}

-- ---- what a session has

-- a line of code
abbrev pub code_line : List ℕ → SessionLine
code_line row = record { line = 0; form = Code row }

-- code in rows of 32 bytes, of which there are so many at most
abbrev pub rows_by : ℕ → List ℕ → List (List ℕ)
rows_by zero code = []
rows_by (suc most) [] = []
rows_by (suc most) (c ∷ cs) = take 32 (c ∷ cs) ∷ rows_by most (drop 32 (c ∷ cs))

-- code in rows of 32 bytes; the last may be shorter
abbrev pub rows_of : List ℕ → List (List ℕ)
rows_of code = rows_by (length code) code

-- the session of a bare machine with this code
abbrev pub bare_session : Request → List ℕ → Session
bare_session request code = record {
  version = request.version;
  store = request.store;
  period = request.period;
  bare = true;
  resident = false;
  debug = false;
  lines = map code_line (rows_of code);
  keys = [];
  go = request.steps;
}

-- the line of a file
abbrev pub file_line : MadeFile → SessionLine
file_line file = record { line = 0; form = File file.name file.bytes }

-- the line of a task
abbrev pub task_line : MadeTask → SessionLine
task_line task = record { line = 0; form = Task task.id task.priority task.stack task.names }

-- the lines of files, and then those of tasks
abbrev pub lines_made : List MadeFile → List MadeTask → List SessionLine
lines_made files tasks = map file_line files ++ map task_line tasks

-- there are residents
abbrev pub is_shell : Kind → Bool
is_shell Shell = true
is_shell Bare = false
is_shell Guests = false

-- the session of a machine with a kernel, but for what is typed
abbrev pub kernel_session : Request → List MadeFile → List MadeTask → Session
kernel_session request files tasks = record {
  version = request.version;
  store = request.store;
  period = request.period;
  bare = false;
  resident = is_shell request.kind;
  debug = is_shell request.kind && request.reporter;
  lines = lines_made files tasks;
  keys = [];
  go = request.steps;
}

-- ---- its text

-- the line of what is typed
abbrev pub typed_line : Typed → List ℕ
typed_line (TypedText step text) = joined (codes "AT " ∷ decimal step ∷ codes " :" ∷ text ∷ codes "\n" ∷ [])
typed_line (TypedKey step byte) = joined (codes "KEY " ∷ decimal step ∷ codes " " ∷ encode_lower (byte ∷ []) ∷ codes "\n" ∷ [])

-- the last line
unfoldable pub go_text : ℕ → List ℕ
go_text steps = joined (codes "GO " ∷ decimal steps ∷ codes "\n" ∷ [])

-- the lines up to what is typed
unfoldable pub front_text : Session → List ℕ
front_text s =
    text_of_lines (head_text s.version s.store ++ (machine_text s.bare s.period s.resident s.debug ++ lines_text s.lines))

-- the text of a session: its lines, what is typed, and its steps
unfoldable pub session_text : Session → List Typed → List ℕ
session_text s typed = front_text s ++ (flat_map typed_line typed ++ go_text s.go)
