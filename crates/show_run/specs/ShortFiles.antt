-- Sessions of which each file is short enough to be read as a module. Those of a text that is read are.
use Rattle.std.specs.Prelude.{◌-◌, ◌<◌, ◌^◌, length}
use Rattle.std.specs.List.{AllByRecursion}
use Rattle.session_text.specs.declared.sessions.LineForm.{LineForm}
use Rattle.session_text.specs.declared.sessions.LineForm.TheVariants.{Code, File, Task}
use Rattle.session_text.specs.declared.sessions.Session.{Session}
use Rattle.session_text.specs.declared.sessions.SessionLine.{SessionLine}

-- a file has fewer bytes than a reader's places; code and tasks have none
abbrev pub IsShortForm : LineForm → Type 0
IsShortForm (Code bytes) = Unit {0}
IsShortForm (File name bytes) = length bytes < 2 ^ 32 - 1
IsShortForm (Task id pri stack names) = Unit {0}

-- what the line puts into the machine is short enough
abbrev pub IsShortLine : SessionLine → Type 0
IsShortLine line = IsShortForm line.form

-- so is each line of the session
abbrev pub HasShortFiles : Session → Type 0
HasShortFiles s = AllByRecursion IsShortLine s.lines
