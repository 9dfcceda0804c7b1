-- The files of programs in a machine with a kernel.
use Rattle.std.specs.Prelude.{ℕ, ◌-◌, ◌==◌, if◌then◌else◌, Bool, List, [], ◌∷◌, ◌++◌, length, take, codes, Option, Some, None, Result, Ok, Err, nat_eq, nat_le}
use Rattle.std.specs.List.{ends_with, find, flat_map, list_any}
use Rattle.std.specs.Option.{unwrap_or}
use Rattle.std.specs.Str.{bytes_eq}
use Rattle.module_text.specs.Canonical.{printed}
use Rattle.module_text.specs.declared.modules.Hunk.{Hunk}
use Rattle.module_text.specs.declared.modules.Module.{Module}
use Rattle.module_text.specs.TextReader.Steps.{◌>>=◌}
use Rattle.ram_disc.specs.Name.{is_name}
use Rattle.session_making.specs.Modules.{file_module}
use Rattle.session_making.specs.Tables.{hunk_numbers}
use Rattle.tool_bundles.specs.declared.bundles.Entry.{Entry}
use Rattle.session_making.specs.declared.makings.Making.{Making}
use Rattle.session_making.specs.declared.programs.MadeFile.{MadeFile}
use Rattle.session_making.specs.declared.programs.Program.{Program}
use Rattle.session_making.specs.declared.programs.Source.{Source}
use Rattle.session_making.specs.declared.wrongs.Wrong.{Wrong}
use Rattle.session_making.specs.declared.wrongs.Wrong.TheVariants.{FileCount, NameTaken, ProgramName}

-- ---- names and paths

-- what comes after the last slash of a path, where this came after the last slash before the path
abbrev pub base_name : List ℕ → List ℕ → List ℕ
base_name name [] = name
base_name name (c ∷ cs) = if c == 47 then base_name cs cs else base_name name cs

-- a name without this end, if it has it
abbrev pub without_end : List ℕ → List ℕ → Option (List ℕ)
without_end end name = if ends_with nat_eq name end then Some (take (length name - length end) name) else None

-- a name without the end of a program's file
abbrev pub plain_name : List ℕ → List ℕ
plain_name name =
    unwrap_or (without_end (codes ".asm") name)
    (unwrap_or (without_end (codes ".s") name) (unwrap_or (without_end (codes ".module") name) name))

-- the name of the first of some files, without the end of a program's file
abbrev pub file_name : List Entry → List ℕ
file_name [] = []
file_name (file ∷ files) = plain_name (base_name file.word file.word)

-- the name of a program: that of its first file, or as much of it as a name may have
abbrev pub program_name : List Entry → List ℕ
program_name files = take 12 (file_name files)

-- a program has this name, which is that of its first file or the front of it
abbrev pub name_of : List ℕ → List ℕ → Result (List ℕ) Wrong
name_of whole name = if is_name name then Ok name else Err (ProgramName whole)

-- the paths of files, with a blank between each two
abbrev pub joined_paths : List Entry → List ℕ
joined_paths [] = []
joined_paths (file ∷ files) = file.word ++ flat_map (λ other. 32 ∷ other.word) files

-- ---- programs

-- the file of this name
abbrev pub file_named : List MadeFile → List ℕ → Option MadeFile
file_named files name = find (λ file. bytes_eq file.name name) files

-- there may be one file more
abbrev pub check_count : List MadeFile → List ℕ → Result (Unit {0}) Wrong
check_count files word = if nat_le 64 (length files) then Err (FileCount word) else Ok tt

-- hunks with those of files after them, and what globals files set
abbrev pub joined : List Hunk → List Source → List Entry → Result (List Hunk × List Source) Wrong
joined hunks sources [] = Ok (hunks, sources)
joined hunks sources (file ∷ files) = do
  m ← file_module file
  joined (hunks ++ m.hunks) (sources ++ record { path = file.word; numbers = hunk_numbers [] m.hunks } ∷ []) files

-- a module of these hunks
abbrev pub module_with : List Hunk → Module
module_with hunks = record { hunks = hunks }

-- hunks that set global 1
abbrev pub sets_first : List Hunk → Bool
sets_first hunks = list_any (λ n. n == 1) (hunk_numbers [] hunks)

-- a program whose name a file has already: it has to come from the same paths
abbrev pub known_program : MadeFile → List ℕ → List ℕ → List ℕ → Result Program Wrong
known_program known word name paths =
    if bytes_eq known.paths paths then Ok (record { name = name; begins = known.begins }) else
    Err (NameTaken word known.paths known.item paths)

-- what is made, with one file more
abbrev pub with_file : Making → MadeFile → Making
with_file making file = record making { files = making.files ++ file ∷ [] }

-- a program that is not there yet: one module with the hunks of all its files
abbrev pub new_program : Making → ℕ → List ℕ → List ℕ → List Entry → Result (Making × Program) Wrong
new_program making item name paths files = do
  parts ← joined [] making.sources files
  Ok (
    with_file (record making { sources = parts.1 }) (record {
      name = name;
      paths = paths;
      item = item;
      bytes = printed (module_with parts.0);
      begins = sets_first parts.0;
    }),
    record { name = name; begins = sets_first parts.0 },
  )

-- what is made stays, with this program
abbrev pub with_known : Making → Result Program Wrong → Result (Making × Program) Wrong
with_known making (Ok program) = Ok (making, program)
with_known making (Err wrong) = Err wrong

-- the program of files, whose name a file has already or not
abbrev pub program_by : Option MadeFile → Making → ℕ → List ℕ → List ℕ → List Entry → Result (Making × Program) Wrong
program_by (Some known) making item word name_is files = with_known making (known_program known word name_is (joined_paths files))
program_by None making item word name_is files = do
  room ← check_count making.files word
  new_program making item name_is (joined_paths files) files

-- the program of files, which is added once
abbrev pub add_program : Making → ℕ → List Entry → Result (Making × Program) Wrong
add_program making item files = do
  name ← name_of (file_name files) (program_name files)
  program_by (file_named making.files name) making item (program_name files) name files
