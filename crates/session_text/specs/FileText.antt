-- Text that is added to the last file of a session's lines.
use Rattle.std.specs.Prelude.{ℕ, List, [], ◌∷◌, ◌++◌}
use Rattle.session_text.specs.declared.sessions.SessionLine.{SessionLine}
use Rattle.session_text.specs.declared.sessions.LineForm.{LineForm}
use Rattle.session_text.specs.declared.sessions.LineForm.TheVariants.{Code, File, Task}

-- a line of text, and its LF, at the end of a file's bytes
abbrev pub form_with_text : LineForm → List ℕ → LineForm
form_with_text (File name bytes) text = File name (bytes ++ (text ++ 10 ∷ []))
form_with_text (Code bytes) text = Code bytes
form_with_text (Task id pri stack names) text = Task id pri stack names

-- a session's line with a line of text at the end of its bytes, where it is a file
abbrev pub line_with_text : SessionLine → List ℕ → SessionLine
line_with_text line text = record line { form = form_with_text line.form text }

-- the lines of a session with a line of text at the end of the last of them, where that is a file
abbrev pub with_text : List SessionLine → List ℕ → List SessionLine
with_text [] text = []
with_text (line ∷ []) text = line_with_text line text ∷ []
with_text (line ∷ next ∷ lines) text = line ∷ with_text (next ∷ lines) text
