-- The programs of a session: its files whose texts are modules.
use Rattle.std.specs.Prelude.{ℕ, List, [], ◌∷◌, Result, Ok, Err}
use Rattle.std.specs.List.{flat_map}
use Rattle.module_text.specs.ModuleOfText.{module_of}
use Rattle.module_text.specs.TextReader.Refusal.{Refusal}
use Rattle.module_text.specs.declared.modules.Module.{Module}
use Rattle.session_text.specs.declared.sessions.LineForm.{LineForm}
use Rattle.session_text.specs.declared.sessions.LineForm.TheVariants.{Code, File, Task}
use Rattle.session_text.specs.declared.sessions.Session.{Session}
use Rattle.session_text.specs.declared.sessions.SessionLine.{SessionLine}
use Rattle.state_text.specs.declared.programs.Program.{Program}
use Rattle.show_run.specs.declared.commands.Show.{Show}
use Rattle.show_run.specs.declared.commands.Show.TheVariants.{State as ShowState}

-- a file whose text is a module is a program; any other file is none
abbrev pub file_programs : List ℕ → Result Module Refusal → List Program
file_programs name (Ok m) = record { name = name; hunks = m.hunks } ∷ []
file_programs name (Err r) = []

-- only a line of a file gives one
abbrev pub form_programs : LineForm → List Program
form_programs (Code bytes) = []
form_programs (File name bytes) = file_programs name (module_of bytes)
form_programs (Task id pri stack names) = []

-- what a line gives, if it gives a program
abbrev pub line_programs : SessionLine → List Program
line_programs line = form_programs line.form

-- all of them, in their order
abbrev pub programs_of : Session → List Program
programs_of s = flat_map line_programs s.lines

-- those whose names are said: a state has the names of all, and what happened in steps has none
abbrev pub named_programs : Show → Session → List Program
named_programs ShowState s = programs_of s
named_programs _ s = []
