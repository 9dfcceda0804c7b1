-- The command that a line is, or the code of its refusal.
use Rattle.std.specs.Prelude.{ℕ, ◌+◌, ◌==◌, if◌then◌else◌, List, codes, length, Option, Some, None, Result, Ok}
use Rattle.command_lines.specs.declared.argument_templates.args.Arg.{Arg}
use Rattle.command_lines.specs.declared.commands.Command.{Command}
use Rattle.command_lines.specs.declared.commands.Command.TheVariants.{Nothing, «Type», Examine, Delete, Rename, Status, Map, Hold, Release, ChangePriority, Break, Run, Finish, Start}
use Rattle.command_lines.specs.declared.command_names.CommandName.{CommandName}
use Rattle.command_lines.specs.declared.command_names.CommandName.TheVariants.{TypeFile, ListFiles, DeleteFile, RenameFile, ListTasks, CountBlocks, HoldTask, ReleaseTask, SetPriority, SetFlags, RunProgram, FinishMachine}
use Rattle.command_lines.specs.Arguments.{arguments, is_set_at, name_of, number_of, on_ok, option_number_at, text_at}
use Rattle.command_lines.specs.CommandNames.{command_named}
use Rattle.command_lines.specs.Words.{first_word, rest_of}

-- ---- what follows the word, by the templates

-- nothing
abbrev pub nothing_in : List ℕ → Result (Unit {0}) ℕ
nothing_in rest = on_ok (arguments (codes "") rest) (λ args. Ok tt)

-- a file
abbrev pub file_in : List ℕ → Result (List ℕ) ℕ
file_in rest = on_ok (arguments (codes "FILE/A") rest) (λ args. name_of (text_at rest args 0))

-- the number of a task
abbrev pub task_in : List ℕ → Result ℕ ℕ
task_in rest = on_ok (arguments (codes "TASK/A") rest) (λ args. number_of (text_at rest args 0))

-- the name of a file, and its new name
abbrev pub renaming_in : List ℕ → Result Command ℕ
renaming_in rest =
    on_ok (arguments (codes "FROM/A,TO=AS/A") rest) (λ args.
    on_ok (name_of (text_at rest args 0)) (λ from.
    on_ok (name_of (text_at rest args 1)) (λ to. Ok (Rename from to))))

-- a task, and its new priority
abbrev pub priority_in : List ℕ → Result Command ℕ
priority_in rest =
    on_ok (arguments (codes "TASK/A,PRI/A") rest) (λ args.
    on_ok (number_of (text_at rest args 0)) (λ task.
    on_ok (number_of (text_at rest args 1)) (λ priority. Ok (ChangePriority task priority))))

-- the flag of the switch that is the k-th entry
abbrev pub flag_at : List Arg → ℕ → ℕ → ℕ
flag_at args k flag = if is_set_at args k then flag else 0

-- the flags of the switches B, C, D and E that are set, added up
abbrev pub flags_of : List Arg → ℕ
flags_of args = flag_at args 1 1 + flag_at args 2 2 + flag_at args 3 4 + flag_at args 4 8

-- no switch means B
abbrev pub flags_or_b : List Arg → ℕ
flags_or_b args = if flags_of args == 0 then 1 else flags_of args

-- a task, and its new flags
abbrev pub flags_in : List ℕ → Result Command ℕ
flags_in rest =
    on_ok (arguments (codes "TASK/A,B/S,C/S,D/S,E/S") rest) (λ args.
    on_ok (number_of (text_at rest args 0)) (λ task. Ok (Break task (flags_or_b args))))

-- a program, and its priority, which is read before the name is
abbrev pub program_in : List ℕ → Result Command ℕ
program_in rest =
    on_ok (arguments (codes "PROGRAM/A,PRI/K") rest) (λ args.
    on_ok (option_number_at rest args 1) (λ priority.
    on_ok (name_of (text_at rest args 0)) (λ program. Ok (Run program priority))))

-- ---- the line

-- a word that names a command, and what follows it
abbrev pub named_command : CommandName → List ℕ → Result Command ℕ
named_command TypeFile rest = on_ok (file_in rest) (λ name. Ok («Type» name))
named_command ListFiles rest = on_ok (nothing_in rest) (λ none. Ok Examine)
named_command DeleteFile rest = on_ok (file_in rest) (λ name. Ok (Delete name))
named_command RenameFile rest = renaming_in rest
named_command ListTasks rest = on_ok (nothing_in rest) (λ none. Ok Status)
named_command CountBlocks rest = on_ok (nothing_in rest) (λ none. Ok Map)
named_command HoldTask rest = on_ok (task_in rest) (λ task. Ok (Hold task))
named_command ReleaseTask rest = on_ok (task_in rest) (λ task. Ok (Release task))
named_command SetPriority rest = priority_in rest
named_command SetFlags rest = flags_in rest
named_command RunProgram rest = program_in rest
named_command FinishMachine rest = on_ok (nothing_in rest) (λ none. Ok Finish)

-- Any other word is a program. The name of one that is there is looked at before what follows, so a refusal of that is none of
-- the line.
abbrev pub program_named : List ℕ → List ℕ → Result Command ℕ
program_named word rest = on_ok (name_of word) (λ program. Ok (Start program (nothing_in rest)))

-- the command that the first word of a line names, or the program
abbrev pub command_by : Option CommandName → List ℕ → List ℕ → Result Command ℕ
command_by (Some name) word rest = named_command name rest
command_by None word rest = program_named word rest

-- A line without a word asks nothing; otherwise its first word says what, and the rest is read by that.
unfoldable pub command_of : List ℕ → Result Command ℕ
command_of line =
    if length (first_word line) == 0 then Ok Nothing
    else command_by (command_named (first_word line)) (first_word line) (rest_of line)
