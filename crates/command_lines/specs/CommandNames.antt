-- The words that name commands.
use Rattle.std.specs.Prelude.{ℕ, Option, List, [], ◌∷◌, codes, find}
use Rattle.std.specs.Option.{option_map}
use Rattle.std.specs.Str.{str_eq_ignore_ascii_case}
use Rattle.command_lines.specs.declared.command_names.CommandName.{CommandName}
use Rattle.command_lines.specs.declared.command_names.CommandName.TheVariants.{TypeFile, ListFiles, DeleteFile, RenameFile, ListTasks, CountBlocks, HoldTask, ReleaseTask, SetPriority, SetFlags, RunProgram, FinishMachine}

-- the name of each command, and the command
abbrev pub command_names : List (List ℕ × CommandName)
command_names =
    (codes "TYPE", TypeFile) ∷
    (codes "EX", ListFiles) ∷
    (codes "DELETE", DeleteFile) ∷
    (codes "RENAME", RenameFile) ∷
    (codes "STATUS", ListTasks) ∷
    (codes "MAP", CountBlocks) ∷
    (codes "HOLD", HoldTask) ∷
    (codes "RELEASE", ReleaseTask) ∷
    (codes "CHANGEPRI", SetPriority) ∷
    (codes "BREAK", SetFlags) ∷
    (codes "RUN", RunProgram) ∷
    (codes "FINISH", FinishMachine) ∷ []

-- the command that a word names, case ignored
abbrev pub command_named : List ℕ → Option CommandName
command_named word = option_map (λ entry. entry.1) (find (λ entry. str_eq_ignore_ascii_case entry.0 word) command_names)
