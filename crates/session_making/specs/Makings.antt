-- What is made of the items of a machine with a kernel.
use Rattle.std.specs.Prelude.{ℕ, ◌==◌, ◌&&◌, ◌||◌, not, if◌then◌else◌, Bool, false, List, [], ◌∷◌, ◌++◌, length, codes, decimal, Option, Some, None, Result, Ok, Err, nat_lt}
use Rattle.std.specs.List.{find}
use Rattle.byte_streams.specs.Pieces.{joined}
use Rattle.module_text.specs.TextReader.Steps.{◌>>=◌}
use Rattle.ram_disc.specs.Name.{is_name}
use Rattle.friendly_assembly.specs.PlainText.{has_open_line}
use Rattle.session_making.specs.Modules.{file_bytes}
use Rattle.session_making.specs.Notes.{clash_notes, note, short_note, start_note}
use Rattle.session_making.specs.Programs.{add_program, check_count, file_name, file_named, with_file}
use Rattle.session_making.specs.Texts.{bad_place, first_spot}
use Rattle.tool_bundles.specs.declared.bundles.Entry.{Entry}
use Rattle.session_making.specs.declared.items.Item.{Item}
use Rattle.session_making.specs.declared.items.Item.TheVariants.{Task, Program as ProgramItem, File, Text, Key}
use Rattle.session_making.specs.declared.makings.Frame.{Frame}
use Rattle.session_making.specs.declared.makings.MadeTask.{MadeTask}
use Rattle.session_making.specs.declared.makings.Making.{Making}
use Rattle.session_making.specs.declared.makings.Typed.{Typed}
use Rattle.session_making.specs.declared.makings.Typed.TheVariants.{Text as TypedText, Key as TypedKey}
use Rattle.session_making.specs.declared.programs.MadeFile.{MadeFile}
use Rattle.session_making.specs.declared.programs.Program.{Program}
use Rattle.session_making.specs.declared.requests.Kind.{Kind}
use Rattle.session_making.specs.declared.requests.Kind.TheVariants.{Bare, Guests, Shell}
use Rattle.session_making.specs.declared.texts.ByteAt.{ByteAt}
use Rattle.session_making.specs.declared.wrongs.Wrong.{Wrong}
use Rattle.session_making.specs.declared.wrongs.Wrong.TheVariants.{FileByte, FileName, FileTaken, NumberTaken, PriorityReserved, PriorityTaken, TaskFiles}

-- nothing is made
abbrev pub new_making : Making
new_making = record { files = []; tasks = []; typed = []; sources = []; told = []; notes = [] }

-- notes after those that are there
abbrev pub with_notes : Making → List ℕ → Making
with_notes making notes = record making { notes = making.notes ++ notes }

-- ---- tasks

-- the task of this number
abbrev pub task_with : List MadeTask → ℕ → Option MadeTask
task_with tasks id = find (λ task. task.id == id) tasks

-- the number is no task's
abbrev pub number_free : Option MadeTask → ℕ → Result (Unit {0}) Wrong
number_free (Some task) id = Err (NumberTaken task.item id)
number_free None id = Ok tt

-- no task has the number
abbrev pub check_number : List MadeTask → ℕ → Result (Unit {0}) Wrong
check_number tasks id = number_free (task_with tasks id) id

-- the task of this priority
abbrev pub task_of : List MadeTask → ℕ → Option MadeTask
task_of tasks priority = find (λ task. task.priority == priority) tasks

-- the priority is no task's
abbrev pub priority_free : Option MadeTask → ℕ → Result (Unit {0}) Wrong
priority_free (Some task) priority = Err (PriorityTaken task.item priority)
priority_free None priority = Ok tt

-- a resident, or the task that reports faults, has the priority
abbrev pub is_residents : Bool → ℕ → Bool
is_residents reporter priority =
    if priority == 3000 then reporter else (priority == 1000) || (priority == 5000) || (priority == 6000)

-- the same, of each machine
abbrev pub is_reserved_by : Kind → Bool → ℕ → Bool
is_reserved_by Bare reporter priority = false
is_reserved_by Guests reporter priority = false
is_reserved_by Shell reporter priority = is_residents reporter priority

-- a task of the system has the priority
abbrev pub is_reserved : Frame → ℕ → Bool
is_reserved frame priority = is_reserved_by frame.kind frame.reporter priority

-- no task has the priority, neither of the system nor of the session
abbrev pub check_priority : Frame → List MadeTask → ℕ → Result (Unit {0}) Wrong
check_priority frame tasks priority =
    if is_reserved frame priority then Err (PriorityReserved priority) else priority_free (task_of tasks priority) priority

-- a task of this version may have so many files
abbrev pub check_files : ℕ → ℕ → Result (Unit {0}) Wrong
check_files version count = if not (version == 1) && nat_lt 8 count then Err (TaskFiles count) else Ok tt

-- each file is added as a program; these are the names of those before, and whether one of them sets global 1
abbrev pub add_each : Making → List (List ℕ) → Bool → ℕ → List Entry → Result (Making × List (List ℕ) × Bool) Wrong
add_each making names begins item [] = Ok (making, names, begins)
add_each making names begins item (file ∷ files) = do
  added ← add_program making item (file ∷ [])
  add_each added.0 (names ++ added.1.name ∷ []) (begins || added.1.begins) item files

-- all files are one program
abbrev pub add_joined : Making → ℕ → List Entry → Result (Making × List (List ℕ) × Bool) Wrong
add_joined making item files = do
  added ← add_program making item files
  Ok (added.0, added.1.name ∷ [], added.1.begins)

-- the programs of a task: in version 1 all its files are one, and in version 2 each is one
abbrev pub add_programs : ℕ → Making → ℕ → List Entry → Result (Making × List (List ℕ) × Bool) Wrong
add_programs version making item files =
    if version == 1 then add_joined making item files else add_each making [] false item files

-- the notes of clashes of globals between files
abbrev pub note_clashes : Making → List Entry → Making
note_clashes making files =
    let notes = clash_notes making.told making.sources files in
    with_notes (record making { told = notes.0 }) notes.1

-- a task in words
abbrev pub owner_of : ℕ → List ℕ
owner_of id = joined (codes "task " ∷ decimal id ∷ [])

-- what is to be known of the programs of a task
abbrev pub note_task : Making → ℕ → Bool → List Entry → Making
note_task making id begins files =
    if begins then note_clashes making files else
    with_notes (note_clashes making files) (start_note (codes "task") (owner_of id) files)

-- one task more
abbrev pub with_task : Making → MadeTask → Making
with_task making task = record making { tasks = making.tasks ++ task ∷ [] }

-- a task with its programs
abbrev pub add_task : Frame → Making → ℕ → ℕ → ℕ → ℕ → List Entry → Result Making Wrong
add_task frame making item id priority stack files = do
  number ← check_number making.tasks id
  free ← check_priority frame making.tasks priority
  few ← check_files frame.version (length files)
  programs ← add_programs frame.version making item files
  Ok (with_task (note_task programs.0 id programs.2 files) (record {
    item = item;
    id = id;
    priority = priority;
    stack = stack;
    names = programs.1;
  }))

-- ---- programs

-- a program's name may be a front of that of its first file
abbrev pub note_name : Making → Program → List Entry → Making
note_name making program files = with_notes making (short_note program.name (file_name files))

-- what is to be known of a program
abbrev pub note_program : Making → Program → List Entry → Making
note_program making program files =
    let noted = note_clashes (note_name making program files) files in
    if program.begins then noted else with_notes noted (start_note (codes "program") program.name files)

-- a program of the shell
abbrev pub add_program_item : Making → ℕ → List Entry → Result Making Wrong
add_program_item making item files = do
  added ← add_program making item files
  Ok (note_program added.0 added.1 files)

-- ---- files

-- a lawful name of a file
abbrev pub check_name : List ℕ → Result (List ℕ) Wrong
check_name name = if is_name name then Ok name else Err (FileName name)

-- there is no bad byte
abbrev pub no_place : List ℕ → Option ByteAt → Result (Unit {0}) Wrong
no_place path (Some place) = Err (FileByte path place.spot.line place.spot.column place.byte)
no_place path None = Ok tt

-- the file has bytes alone that a session may have
abbrev pub check_bytes : List ℕ → List ℕ → Result (Unit {0}) Wrong
check_bytes path bytes = no_place path (bad_place first_spot bytes)

-- the name is no file's
abbrev pub name_free : Option MadeFile → List ℕ → Result (Unit {0}) Wrong
name_free (Some file) name = Err (FileTaken file.item name)
name_free None name = Ok tt

-- no file has the name
abbrev pub check_free : List MadeFile → List ℕ → Result (Unit {0}) Wrong
check_free files name = name_free (file_named files name) name

-- a text, whose last line gets an end
abbrev pub whole_text : List ℕ → List ℕ
whole_text text = if has_open_line text then text ++ 10 ∷ [] else text

-- the last line of a file had no end
abbrev pub open_note : List ℕ → List ℕ → List ℕ
open_note name path =
    joined (note ∷ path ∷ codes " has no line end after its last line; in the machine its file " ∷ name ∷ codes " has one\n" ∷ [])

-- what is to be known of a file
abbrev pub note_file : Making → List ℕ → List ℕ → List ℕ → Making
note_file making name path text = if has_open_line text then with_notes making (open_note name path) else making

-- a file of text
abbrev pub add_file : Making → ℕ → List ℕ → Entry → Result Making Wrong
add_file making item name path = do
  own ← check_name name
  bytes ← file_bytes path
  plain ← check_bytes path.word bytes
  free ← check_free making.files name
  room ← check_count making.files name
  Ok (with_file (note_file making name path.word bytes) (record {
    name = own;
    paths = path.word;
    item = item;
    bytes = whole_text bytes;
    begins = false;
  }))

-- ---- any item

-- what is typed
abbrev pub with_typed : Making → Typed → Making
with_typed making typed = record making { typed = making.typed ++ typed ∷ [] }

-- the item of this number, from 1
abbrev pub add_item : Frame → Making → ℕ → Item → Result Making Wrong
add_item frame making number (Task id priority stack files) = add_task frame making number id priority stack files
add_item frame making number (ProgramItem files) = add_program_item making number files
add_item frame making number (File name path) = add_file making number name path
add_item frame making number (Text step text) = Ok (with_typed making (TypedText step text))
add_item frame making number (Key step byte) = Ok (with_typed making (TypedKey step byte))
